use Rattle.std.proofs.Common.{◌≡◌, map, take}
use Rattle.map_warnings.specs.declared.warning.Warning.TheVariants.{Game}
use Rattle.map_warnings.proofs.told.as_warnings.Given as goal

-- as far as it went
abbrev pub invariant-loop-i : goal.invariant-loop-i
invariant-loop-i g l = l.all.items ≡ map (λ w. Game w) (take l.i l.game)
