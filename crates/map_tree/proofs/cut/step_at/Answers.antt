use Rattle.std.proofs.Common.{ℤ, ◌≤ℤ◌, ◌≡◌, false, inl, inr, FitsSigned, w32, refl, arith}
use Rattle.std.proofs.lemmas.Int.{ints, to_z-of_z}
use lib.Signed.{lt_z}
use Rattle.map_geo.proofs.PointCountLemmas.{in_fits}
use Rattle.map_tree.proofs.cut.step_at.Goals as goal

not_less : (a b : ℤ) → a ≤ℤ b → lt_z a b ≡ false → a ≡ b
not_less a b h e = omega (arith, ints)

pub cut_row-requires-clause-cut : goal.cut_row-requires-clause-cut
cut_row-requires-clause-cut c = rw c.at.ensures at (c.in-None.ensures.none.0 refl)

pub returns-in-Some : goal.returns-in-Some
returns-in-Some c = record { s = c.in-Some.s; on = rw c.at.ensures at c.in-Some.ensures.whole; next_is = rw c.word_at.ensures }

pub returns-then-y0-y1 : goal.returns-then-y0-y1
returns-then-y0-y1 c = record { cut = rw c.at.ensures at (c.in-None.ensures.none.0 refl); way = inl c.cut_rows.ensures }

pub returns-else-y0-y1 : goal.returns-else-y0-y1
returns-else-y0-y1 c =
    let rows = c.y0.ensures.valid.rows in
    let low : FitsSigned w32 c.y0.result = rw c.y0.ensures.value (in_fits _ rows.first_in) in
    let high : FitsSigned w32 c.y1.result = rw c.y1.ensures.value (in_fits _ rows.last_in) in
    let test = rw (c.y0.ensures.value, c.y1.ensures.value) at (simp to_z-of_z at c.if-y0-y1.false) in
    record { cut = rw c.at.ensures at (c.in-None.ensures.none.0 refl); way = inr (not_less _ _ rows.ordered test, c.cut_row.ensures) }
