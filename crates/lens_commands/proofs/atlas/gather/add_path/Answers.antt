use Rattle.std.proofs.Common.{inl, refl, rules, subst}
use Rattle.std.specs.Prelude.{IfErr}
use Rattle.lens_engines.specs.declared.object.FileRefusal.TheVariants.{NoWad}
use Rattle.lens_reports.specs.Files.{RefusesRead}
use Rattle.lens_commands.specs.Atlas.{survey_of}
use Rattle.lens_commands.specs.Until.{LeavesLevels, LeavesRefused}
use Rattle.lens_reports.proofs.TellLemmas.{survey_taken}
use Rattle.lens_commands.proofs.UntilLemmas.{levels_left, refused_left}
use Rattle.lens_commands.proofs.GatherLemmas.{file_refused, front_none, on_err_always, path_levels, path_refused, path_told, written_from}
use Rattle.lens_commands.proofs.atlas.gather.add_path.Goals as goal

pub returns-in-Ok-add_levels-clause-told : goal.returns-in-Ok-add_levels-clause-told
returns-in-Ok-add_levels-clause-told g c =
    let told = survey_taken c.args.file.now.origin.path.now c.deref.result.now c.args.file.now.origin.judging (g.F.File.Sink.state c.args.survey.now)
    (g.F.File.Sink.state c.add_levels.new.survey) c.in-Ok-add_levels.verdict c.in-Ok-add_levels.ensures.told in
    rw c.survey_tally.ensures (inl (record { bytes = c.deref.result.now; are = search rules; few = search rules; told = (told, refl) }))

pub returns-in-Ok-add_levels-clause-adds : goal.returns-in-Ok-add_levels-clause-adds
returns-in-Ok-add_levels-clause-adds g c =
    let told = survey_taken c.args.file.now.origin.path.now c.deref.result.now c.args.file.now.origin.judging (g.F.File.Sink.state c.args.survey.now)
    (g.F.File.Sink.state c.add_levels.new.survey) c.in-Ok-add_levels.verdict c.in-Ok-add_levels.ensures.told in
    rw c.survey_tally.ensures
    (path_levels (g.S.Storage.held c.args.file.now.storage.now c.args.file.now.origin.path.now) c.args.file.now.drawn c.args.file.now.origin (g.F.Folder.kept c.args.folder.now) (g.F.Folder.kept c.add_levels.new.folder)
    (g.F.File.Sink.state c.args.survey.now) (g.F.File.Sink.state c.add_levels.new.survey) (g.E.Sink.state c.args.errors.now) (g.E.Sink.state c.args.errors.now)
    c.deref.result.now c.args.gathered.now (record c.args.gathered.now { rows = c.add_levels.new.rows }) _ (search rules) (search rules) (told, refl)
    c.in-Ok-add_levels.ensures.adds refl refl)

pub add_refused-requires : goal.add_refused-requires
add_refused-requires g c =
    let left = subst (LeavesLevels g.F.File.Sink.state c.args.file.now.drawn c.args.file.now.origin c.deref.result.now c.args.survey.now c.add_levels.new.survey
    c.args.gathered.now.rows.items c.add_levels.new.rows.items (g.F.Folder.kept c.args.folder.now) (g.F.Folder.kept c.add_levels.new.folder))
    c.in-Err-NoWad.field-0-is c.in-Err-NoWad.ensures.left in
    rw left.untouched c.requires.sound

pub returns-in-Err-NoWad-clause-told : goal.returns-in-Err-NoWad-clause-told
returns-in-Err-NoWad-clause-told g c =
    let left = subst (LeavesLevels g.F.File.Sink.state c.args.file.now.drawn c.args.file.now.origin c.deref.result.now c.args.survey.now c.add_levels.new.survey
    c.args.gathered.now.rows.items c.add_levels.new.rows.items (g.F.Folder.kept c.args.folder.now) (g.F.Folder.kept c.add_levels.new.folder))
    c.in-Err-NoWad.field-0-is c.in-Err-NoWad.ensures.left in
    let writes = written_from g.F.File.Sink.state g.E.Sink.state _ _ _ _ _ _ _ _ c.add_refused.result left.untouched refl (rw c.in-Err-NoWad.why-is at c.add_refused.ensures.told) in
    path_told (g.S.Storage.held c.args.file.now.storage.now c.args.file.now.origin.path.now) (survey_of c.args.file.now.origin.judging) c.args.file.now.origin.path.now (NoWad c.in-Err-NoWad.why)
    (g.F.File.Sink.state c.args.survey.now) (g.F.File.Sink.state c.add_refused.new.survey) (g.E.Sink.state c.args.errors.now) (g.E.Sink.state c.add_refused.new.errors) c.add_refused.result
    (record { bytes = c.deref.result.now; are = search rules; few = search rules; refuses = left.refused }) writes

pub returns-in-Err-NoWad-clause-adds : goal.returns-in-Err-NoWad-clause-adds
returns-in-Err-NoWad-clause-adds g c =
    let left = subst (LeavesLevels g.F.File.Sink.state c.args.file.now.drawn c.args.file.now.origin c.deref.result.now c.args.survey.now c.add_levels.new.survey
    c.args.gathered.now.rows.items c.add_levels.new.rows.items (g.F.Folder.kept c.args.folder.now) (g.F.Folder.kept c.add_levels.new.folder))
    c.in-Err-NoWad.field-0-is c.in-Err-NoWad.ensures.left in
    let writes = written_from g.F.File.Sink.state g.E.Sink.state _ _ _ _ _ _ _ _ c.add_refused.result left.untouched refl (rw c.in-Err-NoWad.why-is at c.add_refused.ensures.told) in
    path_refused (g.S.Storage.held c.args.file.now.storage.now c.args.file.now.origin.path.now) c.args.file.now.drawn c.args.file.now.origin (g.F.Folder.kept c.args.folder.now) (g.F.Folder.kept c.add_levels.new.folder)
    (g.F.File.Sink.state c.args.survey.now) (g.F.File.Sink.state c.add_refused.new.survey) (g.E.Sink.state c.args.errors.now) (g.E.Sink.state c.add_refused.new.errors)
    c.args.gathered.now (record c.args.gathered.now { rows = c.add_levels.new.rows; refused = c.add_refused.new.refused }) (record { path = c.args.file.now.origin.path; why = NoWad c.in-Err-NoWad.why })
    c.add_refused.result refl (record { bytes = c.deref.result.now; are = search rules; few = search rules; refuses = left.refused }) left.rowless
    (rw c.in-Err-NoWad.why-is at c.add_refused.ensures.adds) refl left.kept writes

pub returns-in-Err-NoWad-clause-front : goal.returns-in-Err-NoWad-clause-front
returns-in-Err-NoWad-clause-front g c =
    let left = subst (LeavesLevels g.F.File.Sink.state c.args.file.now.drawn c.args.file.now.origin c.deref.result.now c.args.survey.now c.add_levels.new.survey
    c.args.gathered.now.rows.items c.add_levels.new.rows.items (g.F.Folder.kept c.args.folder.now) (g.F.Folder.kept c.add_levels.new.folder))
    c.in-Err-NoWad.field-0-is c.in-Err-NoWad.ensures.left in
    on_err_always c.add_refused.result (front_none (g.S.Storage.held c.args.file.now.storage.now c.args.file.now.origin.path.now) c.args.file.now.drawn c.args.file.now.origin
    (g.F.Folder.kept c.args.folder.now) (g.F.Folder.kept c.add_levels.new.folder) left.kept)

pub returns-in-Err-NoWad-clause-stopped : goal.returns-in-Err-NoWad-clause-stopped
returns-in-Err-NoWad-clause-stopped g c =
    let left = subst (LeavesLevels g.F.File.Sink.state c.args.file.now.drawn c.args.file.now.origin c.deref.result.now c.args.survey.now c.add_levels.new.survey
    c.args.gathered.now.rows.items c.add_levels.new.rows.items (g.F.Folder.kept c.args.folder.now) (g.F.Folder.kept c.add_levels.new.folder))
    c.in-Err-NoWad.field-0-is c.in-Err-NoWad.ensures.left in
    let stopped = rw c.in-Err-NoWad.why-is at c.add_refused.ensures.stopped in
    let stops = subst (λ o. IfErr c.add_refused.result (LeavesRefused c.args.file.now.origin.path.now (NoWad c.in-Err-NoWad.why)
    (g.F.File.Sink.state o) (g.F.File.Sink.state c.add_refused.new.survey) (g.E.Sink.state c.args.errors.now) (g.E.Sink.state c.add_refused.new.errors))) left.untouched stopped in
    refused_left (g.S.Storage.held c.args.file.now.storage.now c.args.file.now.origin.path.now) c.args.file.now.origin.judging c.args.file.now.origin.path.now
    (g.F.File.Sink.state c.args.survey.now) (g.F.File.Sink.state c.add_refused.new.survey) (g.E.Sink.state c.args.errors.now) (g.E.Sink.state c.add_refused.new.errors)
    (NoWad c.in-Err-NoWad.why) c.add_refused.result (record { bytes = c.deref.result.now; are = search rules; few = search rules; refuses = left.refused }) stops

pub returns-in-Ok-clause-stopped : goal.returns-in-Ok-clause-stopped
returns-in-Ok-clause-stopped g c =
    let left = subst (LeavesLevels g.F.File.Sink.state c.args.file.now.drawn c.args.file.now.origin c.deref.result.now c.args.survey.now c.add_levels.new.survey
    c.args.gathered.now.rows.items c.add_levels.new.rows.items (g.F.Folder.kept c.args.folder.now) (g.F.Folder.kept c.add_levels.new.folder))
    c.in-Err-Keep.field-0-is c.in-Err-Keep.ensures.left in
    let stops = levels_left (g.S.Storage.held c.args.file.now.storage.now c.args.file.now.origin.path.now) c.args.file.now.origin.judging c.args.file.now.origin.path.now
    (g.F.File.Sink.state c.args.survey.now) (g.F.File.Sink.state c.add_levels.new.survey) (g.E.Sink.state c.args.errors.now) (g.E.Sink.state c.args.errors.now)
    c.deref.result.now c.in-Err-Keep.fault (search rules) (search rules) refl left.left in
    rw (c.from.ensures, c.in-Err-Keep.fault-is) stops

pub returns-in-Err-Refused-clause-adds : goal.returns-in-Err-Refused-clause-adds
returns-in-Err-Refused-clause-adds g c =
    let why = file_refused (g.S.Storage.held c.args.file.now.storage.now c.args.file.now.origin.path.now) c.in-Err-Refused.why
    (subst (RefusesRead (g.S.Storage.held c.args.file.now.storage.now c.args.file.now.origin.path.now)) c.in-Err-Refused.field-0-is c.in-Err-Refused.ensures.refused) in
    path_refused (g.S.Storage.held c.args.file.now.storage.now c.args.file.now.origin.path.now) c.args.file.now.drawn c.args.file.now.origin (g.F.Folder.kept c.args.folder.now) (g.F.Folder.kept c.args.folder.now)
    (g.F.File.Sink.state c.args.survey.now) (g.F.File.Sink.state c.add_refused-in-Err-Refused.new.survey) (g.E.Sink.state c.args.errors.now) (g.E.Sink.state c.add_refused-in-Err-Refused.new.errors)
    c.args.gathered.now (record c.args.gathered.now { refused = c.add_refused-in-Err-Refused.new.refused }) (record { path = c.args.file.now.origin.path; why = c.in-Err-Refused.why })
    c.add_refused-in-Err-Refused.result refl why refl (rw c.in-Err-Refused.why-is at c.add_refused-in-Err-Refused.ensures.adds) refl refl
    (rw c.in-Err-Refused.why-is at c.add_refused-in-Err-Refused.ensures.told)

pub returns-in-Err-Refused-clause-stopped : goal.returns-in-Err-Refused-clause-stopped
returns-in-Err-Refused-clause-stopped g c =
    let why = file_refused (g.S.Storage.held c.args.file.now.storage.now c.args.file.now.origin.path.now) c.in-Err-Refused.why
    (subst (RefusesRead (g.S.Storage.held c.args.file.now.storage.now c.args.file.now.origin.path.now)) c.in-Err-Refused.field-0-is c.in-Err-Refused.ensures.refused) in
    refused_left (g.S.Storage.held c.args.file.now.storage.now c.args.file.now.origin.path.now) c.args.file.now.origin.judging c.args.file.now.origin.path.now
    (g.F.File.Sink.state c.args.survey.now) (g.F.File.Sink.state c.add_refused-in-Err-Refused.new.survey) (g.E.Sink.state c.args.errors.now) (g.E.Sink.state c.add_refused-in-Err-Refused.new.errors)
    c.in-Err-Refused.why c.add_refused-in-Err-Refused.result why (rw c.in-Err-Refused.why-is at c.add_refused-in-Err-Refused.ensures.stopped)
