use Rattle.std.proofs.Common.{[]}
use Rattle.map_warnings.specs.NameNumber.{AddsNames}
use Rattle.map_warnings.proofs.NumberLemmas.{Below}
use Rattle.map_warnings.proofs.ListedLemmas.{EntryAt}
use Rattle.map_warnings.proofs.resources.entries_of.Given as goal

abbrev pub invariant-loop-g : goal.invariant-loop-g
invariant-loop-g g l = AddsNames (Below (EntryAt l.set) l.g) [] l.numbers.items
