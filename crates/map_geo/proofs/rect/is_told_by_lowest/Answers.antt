use Rattle.std.proofs.Common.{Bool, true, false, ◌||◌, ℤ, ◌≡◌, ◌⊎◌, inl, inr, refl, sym, ap, ◌∙◌, nat_eq, FitsSigned, to_z, of_z, w32}
use Rattle.std.proofs.lemmas.Bool.{eqb-true}
use Rattle.std.proofs.lemmas.Int.{to_z-of_z}
use Rattle.map_geo.proofs.PointCountLemmas.{in_fits}
use Rattle.map_geo.proofs.rect.is_told_by_lowest.Goals as goal

one_of : (a b : Bool) → (a || b) ≡ true → (a ≡ true) ⊎ (b ≡ true)
one_of true b e = inl refl
one_of false b e = inr e

-- what is told of numbers by their words
same_read : (a b : ℤ) → FitsSigned w32 a → FitsSigned w32 b → nat_eq (of_z w32 a) (of_z w32 b) ≡ true → a ≡ b
same_read a b h k e = sym (to_z-of_z w32 a h) ∙ ap (to_z w32) (eqb-true _ _ e) ∙ to_z-of_z w32 b k

pub returns : goal.returns
returns c =
    let rows = c.y0.ensures.valid.rows in
    λ e. elim (one_of (nat_eq (of_z w32 c.y0.result) (of_z w32 c.y1.result)) c.is_upright.result e) [
      | inl flat ↦ inl (same_read _ _ (in_fits _ rows.first_in) (in_fits _ rows.last_in) (rw (c.y0.ensures.value, c.y1.ensures.value) at flat))
      | inr upright ↦ inr (c.is_upright.ensures upright)
    ]
