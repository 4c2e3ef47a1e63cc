use Rattle.std.proofs.Common.{◌≡◌, false, drop}
use Rattle.std.specs.List.{flat_map}
use Rattle.line_io.proofs.WriteProgressLemmas.{SoFar}
use Rattle.look_engines.specs.Engines.Levels.{level_line, levels_text}
use Rattle.look_engines.proofs.engines.levels.write_levels.Given as goal

abbrev pub invariant-levels : goal.invariant-levels
invariant-levels g l = record {
  sound : (g.W.Sink.state l.out).failed ≡ false;
  so_far : SoFar (levels_text l.found) (g.W.Sink.state l.fn.out) (g.W.Sink.state l.out) (flat_map level_line (drop l.level-index l.found));
}
