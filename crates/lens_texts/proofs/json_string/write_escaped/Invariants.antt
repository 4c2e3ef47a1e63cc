use Rattle.std.proofs.Common.{◌≡◌, false, length}
use Rattle.line_io.proofs.WriteProgressLemmas.{SoFar}
use Rattle.lens_texts.specs.JsonString.{escaped}
use Rattle.lens_texts.proofs.json_string.write_escaped.Given as goal

abbrev pub invariant-runs : goal.invariant-runs
invariant-runs g l = record {
  sound : (g.W.Sink.state l.out).failed ≡ false;
  so_far : SoFar (escaped l.text) (g.W.Sink.state l.fn.out) (g.W.Sink.state l.out) (escaped l.rest);
}

abbrev pub decreases-runs : goal.decreases-runs
decreases-runs g l = length l.rest
