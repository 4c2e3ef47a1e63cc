use Rattle.std.proofs.Common.{◌≡◌, false, drop}
use Rattle.std.specs.List.{flat_map}
use Rattle.line_io.proofs.WriteProgressLemmas.{SoFar}
use Rattle.look_engines.specs.Engines.Census.{count_text}
use Rattle.look_engines.proofs.engines.census.write_pairs.Given as goal

abbrev pub invariant-pairs : goal.invariant-pairs
invariant-pairs g l = record {
  sound : (g.W.Sink.state l.out).failed ≡ false;
  so_far : SoFar (flat_map count_text l.areas) (g.W.Sink.state l.fn.out) (g.W.Sink.state l.out) (flat_map count_text (drop l.i l.areas));
}
