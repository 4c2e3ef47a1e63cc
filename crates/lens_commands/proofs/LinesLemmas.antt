-- How the survey's lines of a page's rows follow one another, and that they are a file's survey.
use Rattle.std.proofs.Common.{◌≡◌, ℕ, suc, ◌+◌, ◌<◌, inl, inr, false, List, [], ◌∷◌, ◌++◌, length, take, drop, map, get_or, All, Ok, Err, refl, sym, ap, ◌∙◌, subst, arith}
use Rattle.std.specs.Io.KnownBytes.{Appends}
use Rattle.std.proofs.KnownBytes.{Appends-nil, Appends-trans}
use Rattle.std.proofs.lemmas.List.{append-nil, append_assoc, drop_more, get_or-append-add, get_or_append_left, length-append, map-append, map_push, take-append-drop, take_more}
use Rattle.std.proofs.Math.Seq.{get_or-append_seam}
use Rattle.std.proofs.lemmas.List.Concat.{flat_map-append}
use Rattle.std.proofs.lemmas.List.Elements.{Contains-append_cases, Contains-append_left, Contains-push, Contains-push_cases}
use Rattle.std.proofs.lemmas.List.Sums.{fold_push}
use Rattle.le_rec.specs.Sink.{SinkState}
use Rattle.line_io.specs.Writes.{Writes}
use Rattle.line_io.specs.declared.fault.IoFault.{IoFault}
use Rattle.wad_dir.specs.Entries.{names}
use Rattle.wad_dir.specs.Wad.{IsRead, Wad}
use Rattle.atlas_page.specs.Levels.{AreRowsBelow, IsRow}
use Rattle.atlas_page.specs.declared.levels.Origin.{Origin}
use Rattle.atlas_page.specs.declared.row.Row.{Row}
use Rattle.lens_engines.specs.Survey.{AreStartsBelow, AreTold, IsTold, SurveysAll, SurveysFile, SurveysSome, ToldLevel, gravest, graver, lines_of, verdict_of}
use Rattle.lens_engines.specs.Surveyed.{survey_line}
use Rattle.lens_engines.specs.declared.verdict.LevelsFault.TheVariants.{Write}
use Rattle.lens_engines.specs.declared.verdict.Verdict.{Verdict}
use Rattle.lens_engines.specs.declared.verdict.Verdict.TheVariants.{Clean}
use Rattle.line_io.proofs.WriteLemmas.{line_stopped}
use Rattle.lens_engines.proofs.SurveyLemmas.{one_file}
use Rattle.lens_commands.specs.AtlasLines.{StopsAtLine, TakesLines, told_of}
use Rattle.lens_commands.specs.Until.{StopsInSurvey}
use Rattle.lens_commands.specs.declared.atlas.fault.KeepFault.TheVariants as file

-- no line yet
pub lines_none : (before : SinkState) → before.failed ≡ false → TakesLines [] before before Clean
lines_none before sound = record { took = Appends-nil before.taken; sound = sound; says = refl }

lines-push : (rows : List Row) (row : Row) → lines_of (map told_of (rows ++ row ∷ [])) ≡ lines_of (map told_of rows) ++ (told_of row).line
lines-push rows row =
    ap lines_of (map_push told_of rows row)
    ∙ flat_map-append (λ (t : ToldLevel). t.line) (map told_of rows) (told_of row ∷ [])
    ∙ ap (λ line. lines_of (map told_of rows) ++ line) (append-nil (told_of row).line)

gravest-push : (rows : List Row) (row : Row) → gravest (map told_of (rows ++ row ∷ [])) ≡ graver (gravest (map told_of rows)) (verdict_of row.found)
gravest-push rows row = ap gravest (map_push told_of rows row) ∙ fold_push (λ v (t : ToldLevel). graver v t.verdict) Clean (map told_of rows) (told_of row)

-- one line more
pub lines_more : (rows : List Row) (i : ℕ) (row : Row) (before between after : SinkState) (worst : Verdict) {x : Unit {0}} → i < length rows → row ≡ get_or rows i row
    → TakesLines (take i rows) before between worst → Writes between after (told_of row).line (Ok x)
    → TakesLines (take (i + 1) rows) before after (graver worst (verdict_of row.found))
lines_more rows i row before between after worst within at so_far writes =
    subst (λ rs. TakesLines rs before after (graver worst (verdict_of row.found))) (ap (λ r. take i rows ++ r ∷ []) at ∙ sym (take_more rows i row within)) (record {
      took = subst (Appends before.taken after.taken) (sym (lines-push (take i rows) row))
          (Appends-trans before.taken between.taken after.taken (lines_of (map told_of (take i rows))) (told_of row).line so_far.took writes.takes.whole);
      sound = writes.ends.sound;
      says = ap (λ v. graver v (verdict_of row.found)) so_far.says ∙ sym (gravest-push (take i rows) row);
    })

-- a line wasn't written to its end
pub lines_stopped : (rows : List Row) (i : ℕ) (row : Row) (before between after : SinkState) (worst : Verdict) {e : IoFault} → i < length rows → row ≡ get_or rows i row
    → TakesLines (take i rows) before between worst → Writes {T = Unit {0}} between after (told_of row).line (Err e) → StopsAtLine rows before after
lines_stopped rows i row before between after worst {e} within at so_far writes = record {
  first = take i rows;
  row = row;
  rest = drop (i + 1) rows;
  stands =
      sym (take-append-drop i rows) ∙ ap (λ rs. take i rows ++ rs) (drop_more rows i row within)
      ∙ sym (append_assoc (take i rows) (get_or rows i row ∷ []) (drop (i + 1) rows)) ∙ ap (λ r. (take i rows ++ r ∷ []) ++ drop (i + 1) rows) (sym at);
  between = between;
  took = so_far.took;
  front = writes.takes.front;
  failed = line_stopped between after (told_of row).line e writes;
}

-- the first of all starts are those below the next entry
starts_front : (all : List (List ℕ)) (end at : ℕ) (first rest : List ℕ) → AreStartsBelow all end ((first ++ at ∷ []) ++ rest)
    → AreStartsBelow all (at + 1) (first ++ at ∷ [])
starts_front all end at first rest are =
    let front = first ++ at ∷ [] in
    let long : length front ≡ length first + 1 = length-append first (at ∷ []) in
    let whole : length (front ++ rest) ≡ length front + length rest = length-append front rest in
    let last : (d : ℕ) → get_or (front ++ rest) (length first) d ≡ at =
    λ d. get_or_append_left front rest d (length first) (omega (arith, long)) ∙ get_or-append_seam first at [] d in
    record {
      ascending = λ i j d before below.
          let lower = are.ascending i j d before (omega (arith, below, whole)) in
          omega (arith, lower, get_or_append_left front rest d i (omega (arith, before, below)), get_or_append_left front rest d j below);
      exact = λ g. (
        (λ there.
            let told = (are.exact g).0 (Contains-append_left front rest g there) in (
              told.0,
              elim (Contains-push_cases first at g there) [
                | inl old ↦
                    let lower = are.ascending old.0 (length first) g old.1 (omega (arith, long, whole)) in
                    let here = get_or_append_left front rest g old.0 (omega (arith, old.1, long)) ∙ get_or_append_left first (at ∷ []) g old.0 old.1 ∙ old.2 in
                    omega (arith, lower, here, last g)
                | inr is ↦ omega (arith, is)
              ],
            )),
        (λ told.
            let below = ((are.exact at).0 (Contains-append_left front rest at (Contains-push first at))).1 in
            elim (Contains-append_cases front rest g ((are.exact g).1 (told.0, omega (arith, told.1, below)))) [
              | inl there ↦ there
              | inr behind ↦
                  let higher = are.ascending (length first) (length front + behind.0) g (omega (arith, long)) (omega (arith, behind.1, whole)) in
                  let here = get_or-append-add front rest behind.0 g ∙ behind.2 in
                  absurd (omega (arith, higher, here, last g, told.1))
            ]),
      );
    }

module _ (origin : Origin) (files : List Wad) where
  row_told : (row : Row) → IsRow origin files row.entry row → IsTold origin.path.now files origin.judging row.entry (told_of row)
  row_told row is = record {
    surveyed = row.found;
    is = is.found;
    name = row.name;
    named = is.named;
    line = ap (λ path. survey_line path row.name row.entry row.found) is.path;
    says = refl;
  }

  rows_told : (rows : List Row) → All (λ row. IsRow origin files row.entry row) rows
      → AreTold origin.path.now files origin.judging (map (λ row. row.entry) rows) (map told_of rows)
  rows_told [] each = tt
  rows_told (row ∷ rows) each = (row_told row (each 0 row (omega arith)), rows_told rows (λ k d within. each (suc k) d (omega (arith, within))))

  -- the lines of all rows are the survey of their files
  pub survey_whole : (rows : List Row) (before after : SinkState) (verdict : Verdict) → AreRowsBelow origin files (length (names files)) rows
      → TakesLines rows before after verdict → SurveysAll origin.path.now files origin.judging before after verdict
  survey_whole rows before after verdict are lines = record {
    told = map told_of rows;
    are = record { starts = map (λ row. row.entry) rows; are = are.starts; each = rows_told rows are.each };
    took = lines.took;
    sound = lines.sound;
    says = lines.says;
  }

  -- and those of the first rows are its beginning
  pub survey_part : (rows : List Row) (end : ℕ) (before after : SinkState) → AreRowsBelow origin files end rows → (stops : StopsAtLine rows before after)
      → SurveysSome origin.path.now files origin.judging before after (Write (gravest (map told_of (stops.first ++ stops.row ∷ []))))
  survey_part rows end before after are stops =
      let front = stops.first ++ stops.row ∷ [] in
      let entries : map (λ (r : Row). r.entry) front ≡ map (λ r. r.entry) stops.first ++ stops.row.entry ∷ [] = map_push (λ r. r.entry) stops.first stops.row in
      let split : map (λ (r : Row). r.entry) rows ≡ (map (λ r. r.entry) stops.first ++ stops.row.entry ∷ []) ++ map (λ r. r.entry) stops.rest =
      ap (map (λ (r : Row). r.entry)) stops.stands ∙ map-append (λ (r : Row). r.entry) front stops.rest ∙ ap (λ es. es ++ map (λ (r : Row). r.entry) stops.rest) entries in
      let starts = starts_front (names files) end stops.row.entry (map (λ (r : Row). r.entry) stops.first) (map (λ (r : Row). r.entry) stops.rest)
      (subst (AreStartsBelow (names files) end) split are.starts) in
      let each : All (λ row. IsRow origin files row.entry row) (front ++ stops.rest) = subst (All (λ row. IsRow origin files row.entry row)) stops.stands are.each in
      let first : All (λ row. IsRow origin files row.entry row) front =
      λ k d within. subst (λ (row : Row). IsRow origin files row.entry row) (get_or_append_left front stops.rest d k within)
      (each k d (omega (arith, within, length-append front stops.rest))) in
      record {
        end = stops.row.entry + 1;
        told = map told_of front;
        are = record {
          starts = map (λ row. row.entry) front;
          are = subst (AreStartsBelow (names files) (stops.row.entry + 1)) (sym entries) starts;
          each = rows_told front first;
        };
        stops = record {
          whole = map told_of stops.first;
          last = told_of stops.row;
          are = map_push told_of stops.first stops.row;
          between = stops.between;
          took = stops.took;
          front = stops.front;
          failed = stops.failed;
          says = refl;
        };
      }

module _ (origin : Origin) (bytes : List ℕ) (files : List Wad) (of_bytes : map (λ file. file.bytes) files ≡ bytes ∷ []) (read : All IsRead files)
    (added part : List Row) (are : AreRowsBelow origin files (length (names files)) added) (same : part ≡ added) (before after : SinkState) where
  -- the lines of all rows of a file are its survey
  pub file_whole : (verdict : Verdict) → TakesLines part before after verdict → SurveysFile origin.path.now bytes origin.judging before after (Ok verdict)
  file_whole verdict lines =
      one_file origin.path.now bytes files origin.judging before after (Ok verdict) of_bytes read
      (record { all = survey_whole origin files added before after verdict are (subst (λ rows. TakesLines rows before after verdict) same lines); some = tt })

  -- and those of the first rows are its beginning
  pub file_part : StopsAtLine part before after → StopsInSurvey origin.path.now bytes origin.judging before after file.Write
  file_part stops =
      let at = subst (λ rows. StopsAtLine rows before after) same stops in
      record {
        found = gravest (map told_of (at.first ++ at.row ∷ []));
        told = one_file origin.path.now bytes files origin.judging before after _ of_bytes read
            (record { all = tt; some = survey_part origin files added (length (names files)) before after are at });
        failed = at.failed;
        is = refl;
      }
