-- What a question of a picture asks, by its numbers.
use Rattle.std.proofs.Common.{◌≡◌, ◌↔◌, ◌<◌, ◌≤◌, ◌⊎◌, ℕ, inl, inr, Bool, true, false, nat_lt, Option, Some, refl}
use Rattle.std.proofs.lemmas.Bool.{ltb-false, ltb-true}
use Rattle.map_cells.specs.CellCount.{IsCellCount}

-- there is no such number of cells
pub no_count : (count : ℕ) (found : Option ℕ) → ((n : ℕ) → (found ≡ Some n) ↔ ((n ≡ count) × IsCellCount n)) → ((n : ℕ) → found ≡ Some n → ⊥) → (count < 1) ⊎ (1024 < count)
no_count count found finds none = low (nat_lt count 1) refl
  where
    high : 1 ≤ count → (over : Bool) → nat_lt 1024 count ≡ over → (count < 1) ⊎ (1024 < count)
    high least true e = inr (ltb-true 1024 count e)
    high least false e = absurd (none count ((finds count).1 (refl, record { least = least; most = ltb-false 1024 count e })))

    low : (under : Bool) → nat_lt count 1 ≡ under → (count < 1) ⊎ (1024 < count)
    low true e = inl (ltb-true count 1 e)
    low false e = high (ltb-false count 1 e) (nat_lt 1024 count) refl
