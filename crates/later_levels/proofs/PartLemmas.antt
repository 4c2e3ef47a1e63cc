-- Each code is of one part.
use Rattle.std.proofs.Common.{◌≡◌, ℕ, ◌≤◌, subst}
use Rattle.std.specs.Prelude.{IfSome, IfNone, Option}
use Rattle.map_level.specs.Findings.{IsFirst}
use Rattle.map_level.specs.declared.finding.Code.{Code}
use Rattle.later_levels.specs.Findings.{LaterHolds, PartHolds, part_of}
use Rattle.later_levels.specs.LaterLevel.{LaterLevel}
use Rattle.later_levels.specs.declared.codes.LaterPart.{LaterPart}

-- what a part finds first is what is found first
module _ (one : LaterLevel) (code : Code) (part : LaterPart) (is : part ≡ part_of code) where
  pub first_by_part : (from : ℕ) (found : Option ℕ) → IfSome found (IsFirst (PartHolds part one code) from)
      → IfSome found (IsFirst (LaterHolds one code) from)
  first_by_part from found h =
      subst (λ (p : LaterPart). IfSome found (IsFirst (PartHolds p one code) from)) is h

  pub none_by_part : (from : ℕ) (found : Option ℕ) → IfNone found ((i : ℕ) → from ≤ i → ¬ PartHolds part one code i)
      → IfNone found ((i : ℕ) → from ≤ i → ¬ LaterHolds one code i)
  none_by_part from found h =
      subst (λ (p : LaterPart). IfNone found ((i : ℕ) → from ≤ i → ¬ PartHolds p one code i)) is h
