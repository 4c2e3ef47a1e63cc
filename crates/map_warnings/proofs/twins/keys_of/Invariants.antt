use Rattle.std.proofs.Common.{◌≡◌}
use Rattle.map_warnings.proofs.KeyLemmas.{keys_below}
use Rattle.map_warnings.proofs.twins.keys_of.Given as goal

abbrev pub invariant-linedefs : goal.invariant-linedefs
invariant-linedefs g l = l.keys.items ≡ keys_below l.level l.i
