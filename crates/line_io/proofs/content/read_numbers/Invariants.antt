use Rattle.std.proofs.Common.{◌≡◌, length}
use Rattle.line_io.proofs.ReadingLemmas.{IsSoFar}
use Rattle.line_io.proofs.content.read_numbers.Given as goal

abbrev pub invariant-loop-i : goal.invariant-loop-i
invariant-loop-i g l = record {
  sized : length l.values ≡ g.row.N;
  so_far : IsSoFar l.content l.rest l.values l.is_printed l.i;
}
