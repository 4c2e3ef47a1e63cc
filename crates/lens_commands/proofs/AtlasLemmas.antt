-- How an atlas is put together in a folder, and how its run ends.
use Rattle.std.proofs.Common.{◌≡◌, ℕ, inl, inr, Result, List, [], ◌∷◌, ◌++◌, length, Option, Ok, codes, true, refl, sym, subst, ap, ◌∙◌}
use Rattle.std.specs.Prelude.{nat_eq, nat_lt}
use Rattle.std.proofs.lemmas.Bool.{and_parts, eqb-true}
use Rattle.std.proofs.lemmas.List.{append-nil, append_assoc}
use Rattle.le_rec.specs.Sink.{SinkState}
use Rattle.atlas_page.specs.declared.refused.RefusedFile.{RefusedFile}
use Rattle.atlas_page.specs.declared.row.Row.{Row}
use Rattle.lens_reports.specs.Files.{stored}
use Rattle.lens_reports.specs.Run.{ToldTo}
use Rattle.lens_reports.specs.declared.tell.ReportSum.{ReportSum}
use Rattle.lens_engines.specs.declared.verdict.Verdict.{Verdict}
use Rattle.lens_commands.specs.Atlas.{LacksPage, LeavesAtlas, RunsAtlas, RunsTaken, WritesAtlas, index_file, is_all_refused, survey_file, survey_of}
use Rattle.lens_reports.specs.Job.{HoldsList, job_paths}
use Rattle.lens_commands.specs.declared.atlas.folder.FolderRefusal.{FolderRefusal}
use Rattle.lens_commands.specs.declared.atlas.job.AtlasJob.{AtlasJob}
use Rattle.lens_reports.specs.declared.end.End.{End}
use Rattle.lens_commands.specs.Folder.{IsBegun, Kept, KeepsFile, with_files}
use Rattle.lens_commands.specs.Gathered.{Gathers, GathersAll, GathersSome}
use Rattle.lens_commands.specs.declared.atlas.job.AtlasRequest.{AtlasRequest}
use Rattle.lens_commands.proofs.FolderLemmas.{with_files-more, with_files-none}
use Rattle.lens_commands.proofs.GatherLemmas.{all_refused}

module _ (held : List ℕ → Option (List ℕ)) (asked : AtlasRequest) (paths : List (List ℕ)) (old : Option (List Kept)) where
  module _ (rows : List Row) (refused : List RefusedFile) (k1 : Option (List Kept)) (before after errors errors' : SinkState) (tally : ReportSum)
      (all : GathersAll held asked paths rows refused old k1 before after errors errors' tally) where
    -- all pictures were, and no more
    pub pictures_alone : (new : Option (List Kept)) → new ≡ k1 → GathersSome held asked paths old new before errors
    pictures_alone new untouched = record {
      before = paths;
      rest = [];
      stands = sym (append-nil paths);
      rows = rows;
      refused = refused;
      between = k1;
      survey' = after;
      errors' = errors';
      tally = tally;
      gathers = all;
      shown = [];
      next = inl refl;
      adds = untouched ∙ sym (with_files-none k1);
    }

    -- nothing was kept, as all paths are refused
    pub atlas_left : IsBegun old before → ToldTo (stored held) (survey_of asked.judging) before errors paths after errors' tally
        → (files : ℕ) → files ≡ length paths → is_all_refused files (length refused) ≡ true → (new : Option (List Kept)) → new ≡ k1
        → LeavesAtlas held asked paths old new errors errors' tally.verdict
    atlas_left begun told files count every new kept =
        let here : is_all_refused (length paths) (length refused) ≡ true = subst (λ n. is_all_refused n (length refused) ≡ true) count every in
        let none = all_refused held asked before errors paths rows refused all.shown after errors' tally all.gathered
        (eqb-true (length refused) (length paths) (and_parts (nat_lt 0 (length paths)) (nat_eq (length refused) (length paths)) here).1) in
        record {
          refused = refused;
          every = here;
          tally = tally;
          before = before;
          begun = begun;
          after = after;
          told = told;
          gathered =
              subst (λ (rs : List Row). Gathers held asked before errors paths rs refused [] after errors' tally) none.0
              (subst (λ (ks : List Kept). Gathers held asked before errors paths rows refused ks after errors' tally) none.1 all.gathered);
          untouched = kept ∙ all.adds ∙ ap (with_files old) none.1 ∙ with_files-none old;
          says = refl;
        }

    module _ (begun : IsBegun old before) (told : ToldTo (stored held) (survey_of asked.judging) before errors paths after errors' tally)
        (k2 : Option (List Kept)) (x : Unit {0}) (kept : KeepsFile k1 k2 after (codes "survey.jsonl") (Ok x)) where
      survey_added : k2 ≡ with_files old (all.shown ++ survey_file kept.0 ∷ [])
      survey_added = kept.2 ∙ ap (λ f. with_files f (survey_file kept.0 ∷ [])) all.adds ∙ with_files-more old all.shown (survey_file kept.0 ∷ [])

      -- and the survey was
      pub page_lacking : (new : Option (List Kept)) → new ≡ k2 → LacksPage held asked paths old new errors errors'
      page_lacking new untouched = record {
        rows = rows;
        refused = refused;
        shown = all.shown;
        tally = tally;
        text = kept.0;
        survey = record { before = before; begun = begun; after = after; told = told; gathered = all.gathered; whole = kept.1 };
        adds = untouched ∙ survey_added;
      }

      -- and at last the page
      pub atlas_written : (n : ℕ) (new : Option (List Kept)) → n ≡ length paths → new ≡ with_files k2 (index_file asked n rows refused ∷ [])
          → WritesAtlas held asked paths old new errors errors' tally.verdict
      atlas_written n new count paged = record {
        rows = rows;
        refused = refused;
        shown = all.shown;
        tally = tally;
        text = kept.0;
        survey = record { before = before; begun = begun; after = after; told = told; gathered = all.gathered; whole = kept.1 };
        adds =
            paged ∙ ap (λ f. with_files f (index_file asked n rows refused ∷ [])) survey_added
            ∙ with_files-more old (all.shown ++ survey_file kept.0 ∷ []) (index_file asked n rows refused ∷ [])
            ∙ ap (with_files old) (append_assoc all.shown (survey_file kept.0 ∷ []) (index_file asked n rows refused ∷ []))
            ∙ ap (λ m. with_files old (all.shown ++ survey_file kept.0 ∷ index_file asked m rows refused ∷ [])) count;
        says = refl;
      }

-- what a run does in a folder that was taken
pub run_in_folder : (held : List ℕ → Option (List ℕ)) (left : Option (List ℕ)) (refuses : FolderRefusal → Type 0) (job : AtlasJob) (list : List ℕ) (old new : Option (List Kept)) (errors errors' : SinkState)
    (result : Result Verdict End) → HoldsList held left job.job list → RunsTaken held job (job_paths job.job list) old new errors errors' result
    → RunsAtlas held left refuses job old new errors errors' result
run_in_folder held left refuses job list old new errors errors' result holds (inl wants) = inl wants
run_in_folder held left refuses job list old new errors errors' result holds (inr (inl refused)) =
    inr (inr (record { list = list; holds = holds; runs = inr (inl refused) }))
run_in_folder held left refuses job list old new errors errors' result holds (inr (inr over)) =
    inr (inr (record { list = list; holds = holds; runs = inl over }))
