use Rattle.std.proofs.Common.{inl, inr, map, refl, sym, ◌∙◌}
use Rattle.std.proofs.lemmas.List.{length-map}
use Rattle.std.proofs.lemmas.Result.{err_from_is_err_and}
use Rattle.lens_commands.proofs.AtlasLemmas.{atlas_left, atlas_written, pictures_alone}
use Rattle.lens_commands.proofs.atlas.run.write_atlas.Goals as goal

pub returns-in_err-survey-clause-some : goal.returns-in_err-survey-clause-some
returns-in_err-survey-clause-some g c =
    let p = err_from_is_err_and c.from_residual.result c.from_residual.ensures.1 in
    rw p.1 (inl c.in_err-survey.ensures.kept)

pub returns-then-is_all_refused-clause-all : goal.returns-then-is_all_refused-clause-all
returns-then-is_all_refused-clause-all g c =
    let all = rw c.in_ok-survey.ensures.kept at c.in-Ok.ensures.all in
    let every = rw c.deref.ensures.value at (sym c.is_all_refused.ensures ∙ c.if-is_all_refused.true) in
    inl (atlas_left (g.S.Storage.held c.args.storage.now) c.args.asked.now (map (λ path. path.now) c.args.paths.now) (g.F.Folder.kept c.args.folder.now)
    c.in-Ok.gathered.rows.items c.in-Ok.gathered.refused.items (g.F.Folder.kept c.gather-gathered.new.folder) _ _ _ _ _ all
    c.in_ok-survey.ensures.begun c.in-Ok.ensures.told _ (sym (length-map c.args.paths.now (λ path. path.now))) every
    (g.F.Folder.kept c.leave.new.self) (c.leave.ensures.kept ∙ c.discard.ensures.kept))

pub returns-in_err-keep-in-Ok-clause-some : goal.returns-in_err-keep-in-Ok-clause-some
returns-in_err-keep-in-Ok-clause-some g c =
    let p = err_from_is_err_and c.from_residual-in_err-keep-in-Ok.result c.from_residual-in_err-keep-in-Ok.ensures.1 in
    let all = rw c.in_ok-survey.ensures.kept at c.in-Ok.ensures.all in
    let alone = pictures_alone (g.S.Storage.held c.args.storage.now) c.args.asked.now (map (λ path. path.now) c.args.paths.now) (g.F.Folder.kept c.args.folder.now)
    c.in-Ok.gathered.rows.items c.in-Ok.gathered.refused.items (g.F.Folder.kept c.gather-gathered.new.folder) _ _ _ _ _ all (g.F.Folder.kept c.keep.new.self) c.in_err-keep-in-Ok.ensures.kept in
    rw p.1 (inr (inl (record { before = g.F.File.Sink.state c.in_ok-survey.survey; begun = c.in_ok-survey.ensures.begun; gathers = alone })))

pub returns-in_ok-write_index-in-Ok-clause-all : goal.returns-in_ok-write_index-in-Ok-clause-all
returns-in_ok-write_index-in-Ok-clause-all g c =
    let all = rw c.in_ok-survey.ensures.kept at c.in-Ok.ensures.all in
    inr (atlas_written (g.S.Storage.held c.args.storage.now) c.args.asked.now (map (λ path. path.now) c.args.paths.now) (g.F.Folder.kept c.args.folder.now)
    c.in-Ok.gathered.rows.items c.in-Ok.gathered.refused.items (g.F.Folder.kept c.gather-gathered.new.folder)
    (g.F.File.Sink.state c.in_ok-survey.survey) (g.F.File.Sink.state c.gather-gathered.new.survey) (g.E.Sink.state c.args.errors.now) (g.E.Sink.state c.gather-gathered.new.errors)
    c.in-Ok.gathered.tally all c.in_ok-survey.ensures.begun c.in-Ok.ensures.told (g.F.Folder.kept c.keep.new.self) c.in_ok-keep-in-Ok.field-0 c.in_ok-keep-in-Ok.ensures.kept
    _ (g.F.Folder.kept c.write_index.new.folder) (sym (length-map c.args.paths.now (λ path. path.now))) c.in_ok-write_index-in-Ok.ensures.written)

pub returns-in_err-survey-clause-told : goal.returns-in_err-survey-clause-told
returns-in_err-survey-clause-told g c =
    let p = err_from_is_err_and c.from_residual.result c.from_residual.ensures.1 in
    rw p.1 (inl (record { untouched = c.in_err-survey.ensures.kept; silent = refl; fault = record { fault = c.in_err-survey.field-0.0; is = p.2 } }))

pub returns-in_err-keep-in-Ok-clause-told : goal.returns-in_err-keep-in-Ok-clause-told
returns-in_err-keep-in-Ok-clause-told g c =
    let p = err_from_is_err_and c.from_residual-in_err-keep-in-Ok.result c.from_residual-in_err-keep-in-Ok.ensures.1 in
    rw p.1 (inr (inr (record {
      before = g.F.File.Sink.state c.in_ok-survey.survey;
      begun = c.in_ok-survey.ensures.begun;
      after = g.F.File.Sink.state c.gather-gathered.new.survey;
      tally = c.in-Ok.gathered.tally;
      told = c.in-Ok.ensures.told;
      fault = record { fault = c.in_err-keep-in-Ok.field-0.0; is = p.2 };
    })))

pub returns-in-Err-clause-told : goal.returns-in-Err-clause-told
returns-in-Err-clause-told g c = inr (inl (record {
  before = g.F.File.Sink.state c.in_ok-survey.survey;
  begun = c.in_ok-survey.ensures.begun;
  after = g.F.File.Sink.state c.gather-gathered.new.survey;
  stops = c.in-Err.ensures.stopped;
}))
