use Rattle.std.proofs.Common.{◌≡◌, ◌≤◌, ◌-◌, [], ◌∷◌, ◌++◌, false, drop, length}
use Rattle.line_io.proofs.WriteProgressLemmas.{SoFar}
use Rattle.look_engines.specs.Engines.Blocks.{block_text, lines_text}
use Rattle.look_engines.specs.Engines.Show.{numbers_text}
use Rattle.look_engines.proofs.engines.blocks.write_lines.Given as goal

abbrev pub invariant-parts : goal.invariant-parts
invariant-parts g l = record {
  sound : (g.W.Sink.state l.out).failed ≡ false;
  within : l.from ≤ length l.lines;
  so_far : SoFar (block_text l.pair.x l.pair.y l.bx l.by (lines_text l.lines)) (g.W.Sink.state l.fn.out) (g.W.Sink.state l.out) (numbers_text (drop l.from l.lines) ++ 10 ∷ []);
}

abbrev pub decreases-parts : goal.decreases-parts
decreases-parts g l = length l.lines - l.from
