use Rattle.std.proofs.Common.{ℕ, List, Bor, arith, refl}
use Rattle.std.proofs.lemmas.Result.{err_from_is_err_and}
use Rattle.lens_reports.specs.Files.{stored}
use Rattle.lens_reports.specs.Run.{at_start}
use Rattle.lens_reports.proofs.TellLemmas.{told_more}
use Rattle.lens_commands.specs.Atlas.{survey_of}
use Rattle.lens_commands.proofs.GatherLemmas.{all_more, all_none, some_stopped}
use Rattle.lens_commands.proofs.UntilLemmas.{stopped_at}
use Rattle.lens_commands.proofs.atlas.gather.gather.Goals as goal

pub loop-i-init : goal.loop-i-init
loop-i-init g c = record {
  taken = c.requires.taken;
  sound = c.requires.sound;
  told = rw c.no_tally.ensures at_start;
  all = rw (c.new.ensures.items, c.new-2.ensures.items, c.no_tally.ensures) (all_none (g.S.Storage.held c.args.files.now.storage.now) c.args.asked.now (g.F.Folder.kept c.args.folder.now)
      (g.F.File.Sink.state c.args.survey.now) (g.E.Sink.state c.args.errors.now));
}

pub returns-in_err-tally-clause-some : goal.returns-in_err-tally-clause-some
returns-in_err-tally-clause-some g c =
    let p = err_from_is_err_and c.from_residual.result c.from_residual.ensures.1 in
    let some = some_stopped (g.S.Storage.held c.args.files.now.storage.now) c.args.asked.now c.args.files.now.paths.now c.loop-i.i _ (omega (arith, c.loop-i-test.true)) _
    (g.F.Folder.kept c.args.folder.now) (g.F.Folder.kept c.loop-i.folder) (g.F.Folder.kept c.add_path.new.folder)
    (g.F.File.Sink.state c.args.survey.now) (g.F.File.Sink.state c.loop-i.survey) (g.F.File.Sink.state c.add_path.new.survey)
    (g.E.Sink.state c.args.errors.now) (g.E.Sink.state c.loop-i.errors) (g.E.Sink.state c.add_path.new.errors) c.loop-i.gathered.tally
    c.loop-i.gathered.rows.items c.loop-i.gathered.refused.items (record { numbered = refl; of_path = refl; judged = refl; cut_at = refl })
    c.loop-i.invariant.all c.in_err-tally.ensures.front in
    rw p.1 some

pub returns-in_err-tally-clause-stopped : goal.returns-in_err-tally-clause-stopped
returns-in_err-tally-clause-stopped g c =
    let p = err_from_is_err_and c.from_residual.result c.from_residual.ensures.1 in
    let at = stopped_at (λ (path : Bor (List ℕ)). path.now) c.args.files.now.paths.now c.loop-i.i _ (omega (arith, c.loop-i-test.true))
    (g.S.Storage.held c.args.files.now.storage.now) (survey_of c.args.asked.now.judging) (g.F.File.Sink.state c.args.survey.now) (g.E.Sink.state c.args.errors.now)
    (g.F.File.Sink.state c.loop-i.survey) (g.E.Sink.state c.loop-i.errors) (g.F.File.Sink.state c.add_path.new.survey) (g.E.Sink.state c.add_path.new.errors)
    c.loop-i.gathered.tally _ c.loop-i.invariant.told c.in_err-tally.ensures.stopped in
    rw (p.1, p.2) at

pub loop-i-preserved : goal.loop-i-preserved
loop-i-preserved g c =
    let more = told_more (λ (path : Bor (List ℕ)). path.now) c.args.files.now.paths.now c.loop-i.i _ (omega (arith, c.loop-i-test.true))
    (stored (g.S.Storage.held c.args.files.now.storage.now)) (survey_of c.args.asked.now.judging) (g.F.File.Sink.state c.args.survey.now) (g.E.Sink.state c.args.errors.now)
    (g.F.File.Sink.state c.loop-i.survey) (g.E.Sink.state c.loop-i.errors) (g.F.File.Sink.state c.add_path.new.survey) (g.E.Sink.state c.add_path.new.errors)
    c.loop-i.gathered.tally c.in_ok-tally.tally c.loop-i.invariant.told c.in_ok-tally.ensures.told in
    let all = all_more (g.S.Storage.held c.args.files.now.storage.now) c.args.asked.now c.args.files.now.paths.now c.loop-i.i _ (omega (arith, c.loop-i-test.true)) _
    (g.F.Folder.kept c.args.folder.now) (g.F.Folder.kept c.loop-i.folder) (g.F.Folder.kept c.add_path.new.folder)
    (g.F.File.Sink.state c.args.survey.now) (g.F.File.Sink.state c.loop-i.survey) (g.F.File.Sink.state c.add_path.new.survey)
    (g.E.Sink.state c.args.errors.now) (g.E.Sink.state c.loop-i.errors) (g.E.Sink.state c.add_path.new.errors) c.loop-i.gathered.tally
    c.loop-i.gathered c.add_path.new.gathered c.in_ok-tally.tally (record { numbered = refl; of_path = refl; judged = refl; cut_at = refl })
    c.loop-i.invariant.all c.in_ok-tally.ensures.adds in
    record {
      taken = c.in_ok-tally.ensures.taken;
      sound = c.in_ok-tally.ensures.sound;
      told = rw (c.with-gathered.ensures, c.in_ok-tally.ensures.adds.found) more;
      all = rw (c.with-gathered.ensures, c.in_ok-tally.ensures.adds.found) all;
    }
