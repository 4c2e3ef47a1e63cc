-- Sectors of ssectors, one after another.
use Rattle.std.proofs.Common.{◌≡◌, inl, inr, ℕ, ◌+◌, List, [], ◌∷◌, ◌++◌, length, length-append, Some, refl, sym, ap, ◌∙◌, subst}
use Rattle.std.specs.List.{slice_get}
use Rattle.map_level.specs.Level.{Level}
use Rattle.map_level.specs.SectorOf.{sector_of}
use Rattle.examples.proofs.ListLemmas.{slice_get-last}

-- the sectors of the first ssectors
pub record SectorsSoFar (level : Level) (count : ℕ) (sectors : List ℕ) : Type 0 where
  pub long : length sectors ≡ count
  pub each : (t sector : ℕ) → slice_get sectors t ≡ Some sector → sector_of level t ≡ Some sector

pub SectorsSoFar-none : (level : Level) → SectorsSoFar level 0 []
SectorsSoFar-none level = record { long = refl; each = λ t sector none. absurd cc }

pub SectorsSoFar-more : (level : Level) (count : ℕ) (sectors : List ℕ) (sector : ℕ) → SectorsSoFar level count sectors
    → sector_of level count ≡ Some sector → SectorsSoFar level (count + 1) (sectors ++ sector ∷ [])
SectorsSoFar-more level count sectors sector so_far here = record {
  long = length-append sectors (sector ∷ []) ∙ ap (λ n. n + 1) so_far.long;
  each = λ t found there. elim (slice_get-last sectors found sector t there) [
    | inl before ↦ so_far.each t found before
    | inr last ↦ subst (λ i. sector_of level i ≡ Some found) (sym (last.0 ∙ so_far.long)) (here ∙ ap Some (sym last.1))
  ];
}
