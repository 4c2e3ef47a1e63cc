use Rattle.std.proofs.Common.{ℕ, List, Bor, arith}
use Rattle.lens_reports.specs.Run.{at_start}
use Rattle.lens_reports.proofs.TellLemmas.{stopped_at, told_more}
use Rattle.lens_reports.proofs.tell.tell_paths.Goals as goal

pub loop-place-init : goal.loop-place-init
loop-place-init g c = record { sound = c.requires; told = rw c.no_tally-sum.ensures at_start }

pub returns-in-Err-clause-stopped : goal.returns-in-Err-clause-stopped
returns-in-Err-clause-stopped g c =
    let at = stopped_at (λ (path : Bor (List ℕ)). path.now) c.args.paths.now c.loop-place.place
    _ (omega (arith, c.loop-place-test.true))
    (g.S.RunFiles.known c.args.files.now) c.args.asked (g.W.Sink.state c.args.out.now) (g.E.Sink.state c.args.errors.now)
    (g.W.Sink.state c.loop-place.out) (g.E.Sink.state c.loop-place.errors) (g.W.Sink.state c.tell_path.new.out) (g.E.Sink.state c.tell_path.new.errors)
    c.loop-place.sum c.in-Err.stop c.loop-place.invariant.told c.in-Err.ensures.stopped in
    rw c.after.ensures at

pub loop-place-preserved : goal.loop-place-preserved
loop-place-preserved g c =
    let more = told_more (λ (path : Bor (List ℕ)). path.now) c.args.paths.now c.loop-place.place _ (omega (arith, c.loop-place-test.true))
    (g.S.RunFiles.known c.args.files.now) c.args.asked (g.W.Sink.state c.args.out.now) (g.E.Sink.state c.args.errors.now)
    (g.W.Sink.state c.loop-place.out) (g.E.Sink.state c.loop-place.errors) (g.W.Sink.state c.tell_path.new.out) (g.E.Sink.state c.tell_path.new.errors)
    c.loop-place.sum c.in-Ok.tally c.loop-place.invariant.told c.in-Ok.ensures.told in
    record { sound = c.in-Ok.ensures.sound; told = rw c.with-sum.ensures more }
