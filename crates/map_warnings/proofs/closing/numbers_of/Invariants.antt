use Rattle.std.proofs.Common.{[]}
use Rattle.map_warnings.specs.RunNumbers.{AddsRuns}
use Rattle.map_warnings.proofs.ClosingLemmas.{runs_below}
use Rattle.map_warnings.proofs.closing.numbers_of.Given as goal

abbrev pub invariant-linedefs : goal.invariant-linedefs
invariant-linedefs g l = AddsRuns (runs_below l.level l.i) [] l.numbers.items
