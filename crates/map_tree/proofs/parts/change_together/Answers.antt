use Rattle.std.proofs.Common.{Bool, true, false, ◌||◌, ℤ, pos, ◌≤ℤ◌, ◌<ℤ◌, ◌≡◌, ◌⊎◌, inl, inr, refl, sym, ap, ◌∙◌, nat_eq, FitsSigned, to_z, of_z, w16, w32, rules, arith}
use Rattle.std.proofs.lemmas.Bool.{eqb-true, eqb-false}
use Rattle.std.proofs.lemmas.Int.{ints, by_lt_z, to_z-of_z}
use Rattle.map_geo.proofs.PointCountLemmas.{in_fits}
use Rattle.map_tree.proofs.parts.change_together.Goals as goal

-- one of two tests holds, or the second fails
one_of : (a b : Bool) → (a || b) ≡ true → (a ≡ true) ⊎ (b ≡ true)
one_of true b e = inl refl
one_of false b e = inr e

second_false : (a b : Bool) → (a || b) ≡ false → b ≡ false
second_false true b e = cc
second_false false b e = e

first_false : (a b : Bool) → (a || b) ≡ false → a ≡ false
first_false true b e = cc
first_false false b e = refl

-- what is told of numbers by their words
zero_read : (z : ℤ) → FitsSigned w16 z → nat_eq (of_z w16 z) 0 ≡ true → z ≡ pos 0
zero_read z h e = sym (to_z-of_z w16 z h) ∙ ap (to_z w16) (eqb-true _ _ e)

same_read : (a b : ℤ) → FitsSigned w32 a → FitsSigned w32 b → nat_eq (of_z w32 a) (of_z w32 b) ≡ true → a ≡ b
same_read a b h k e = sym (to_z-of_z w32 a h) ∙ ap (to_z w32) (eqb-true _ _ e) ∙ to_z-of_z w32 b k

-- of two numbers in order, the first is less where they differ
less_read : (a b : ℤ) → a ≤ℤ b → nat_eq (of_z w32 a) (of_z w32 b) ≡ false → a <ℤ b
less_read a b ordered e = by_lt_z a b (λ less. less) (λ past.
    let same : a ≡ b = omega (arith, ints) in
    absurd (eqb-false _ _ e (ap (of_z w32) same)))

pub returns-clause-together : goal.returns-clause-together
returns-clause-together c =
    let rows = c.y0.ensures.valid.rows in
    let dx : FitsSigned w16 c.args.node.now.dx = search rules in
    λ e. elim (one_of _ _ e) [
      | inl upright ↦ inr (zero_read _ dx upright)
      | inr flat ↦ inl (same_read _ _ (in_fits _ rows.first_in) (in_fits _ rows.last_in) (rw (c.y0.ensures.value, c.y1.ensures.value) at flat))
    ]

pub returns-clause-apart : goal.returns-clause-apart
returns-clause-apart c = λ e changes.
    elim changes [
      | inl flat ↦ eqb-false _ _ (second_false _ _ e) (ap (of_z w32) (c.y0.ensures.value ∙ flat ∙ sym c.y1.ensures.value))
      | inr upright ↦ eqb-false _ _ (first_false _ _ e) (ap (of_z w16) upright)
    ]

pub returns-clause-more : goal.returns-clause-more
returns-clause-more c =
    let ordered = rw (← c.y0.ensures.value, ← c.y1.ensures.value) at c.y0.ensures.valid.rows.ordered in
    rw (← c.y0.ensures.value, ← c.y1.ensures.value) (λ e. less_read _ _ ordered (second_false _ _ e))
