use Rattle.std.proofs.Common.{map, take}
use Rattle.lens_reports.specs.Run.{AreSound, ToldTo}
use Rattle.lens_reports.proofs.tell.tell_paths.Given as goal

abbrev pub invariant-loop-place : goal.invariant-loop-place
invariant-loop-place g l = record {
  sound : AreSound (g.W.Sink.state l.out) (g.E.Sink.state l.errors);
  told : ToldTo (g.S.RunFiles.known l.files) l.asked (g.W.Sink.state l.fn.out) (g.E.Sink.state l.fn.errors)
      (map (λ path. path.now) (take l.place l.paths)) (g.W.Sink.state l.out) (g.E.Sink.state l.errors) l.sum;
}
