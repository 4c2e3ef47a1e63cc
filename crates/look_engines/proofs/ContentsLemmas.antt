-- Numbers that are allowed are their nearest `i32`s, and it can be told which are.
use Rattle.std.proofs.Common.{◌≡◌, ℕ, ◌<◌, ◌^◌, ℤ, pos, negsuc, neg_ℤ, ◌*ℤ◌, ◌≤ℤ◌, ◌⊎◌, inl, inr, Bool, true, false, refl, arith}
use Rattle.std.specs.Prelude.{int_le}
use Rattle.std.proofs.lemmas.Bool.{cases_lt}
use Rattle.std.proofs.lemmas.Int.{ints}
use Rattle.line_io.specs.Numbers.{nearest}
use Rattle.line_io.proofs.NumberAnswersLemmas.{IsNearAllowed}
use Rattle.map_geo.specs.Point.{IsInRange}
use Rattle.map_geo.specs.Rect.{Rect, IsRect, IsSpan, span}
use Rattle.map_level.specs.Links.{Names}
use Rattle.look_engines.specs.Contents.{AreCoordinates, AreSectors}

coordinate_near : (z : ℤ) → IsInRange z → nearest z ≡ z
coordinate_near (pos n) h = let least = h.least in let greatest = h.greatest in omega (arith, ints)
coordinate_near (negsuc n) h = let least = h.least in let greatest = h.greatest in omega (arith, ints)

coordinate_exact : (z : ℤ) → IsInRange (nearest z) → nearest z ≡ z
coordinate_exact (pos n) h = let least = h.least in let greatest = h.greatest in omega (arith, ints)
coordinate_exact (negsuc n) h = let least = h.least in let greatest = h.greatest in omega (arith, ints)

pub coordinates_near : IsNearAllowed IsInRange
coordinates_near = record { near = coordinate_near; exact = coordinate_exact }

module _ (count : ℕ) (few : count < 2 ^ 31) where
  sector_near : (z : ℤ) → Names count z → nearest z ≡ z
  sector_near (pos n) below = omega (arith, ints)
  sector_near (negsuc n) below = absurd below

  sector_exact : (z : ℤ) → Names count (nearest z) → nearest z ≡ z
  sector_exact (pos n) below = omega (arith, ints)
  sector_exact (negsuc n) below = absurd below

  pub sectors_near : IsNearAllowed (Names count)
  sectors_near = record { near = sector_near; exact = sector_exact }

-- whether numbers are allowed can be told
both_or_not : {A B : Type 0} → A ⊎ (¬ A) → B ⊎ (¬ B) → (A × B) ⊎ (¬ (A × B))
both_or_not (inl a) (inl b) = inl (a, b)
both_or_not (inl a) (inr not) = inr (λ both. not both.1)
both_or_not (inr not) b = inr (λ both. not both.0)

pub at_most_or_not : (a b : ℤ) → (a ≤ℤ b) ⊎ (¬ (a ≤ℤ b))
at_most_or_not a b = go (int_le a b) refl
  where
    go : (t : Bool) → int_le a b ≡ t → (a ≤ℤ b) ⊎ (¬ (a ≤ℤ b))
    go true e = inl (grind (arith, ints))
    go false e = inr (λ h. grind (arith, ints))

pub range_or_not : (z : ℤ) → IsInRange z ⊎ (¬ IsInRange z)
range_or_not z = elim (both_or_not (at_most_or_not (neg_ℤ (pos 16384)) z) (at_most_or_not z (pos 16383))) [
  | inl both ↦ inl (record { least = both.0; greatest = both.1 })
  | inr not ↦ inr (λ is. not (is.least, is.greatest))
]

pub coordinates_or_not : (x y : ℤ) → AreCoordinates x y ⊎ (¬ AreCoordinates x y)
coordinates_or_not x y = both_or_not (range_or_not x) (range_or_not y)

named_or_not : (count : ℕ) (z : ℤ) → Names count z ⊎ (¬ Names count z)
named_or_not count (pos n) = elim (cases_lt n count) [
  | inl below ↦ inl below
  | inr past ↦ inr (λ below. omega (arith, below, past))
]
named_or_not count (negsuc n) = inr (λ named. named)

pub sectors_or_not : (count : ℕ) (a b : ℤ) → AreSectors count a b ⊎ (¬ AreSectors count a b)
sectors_or_not count a b = both_or_not (named_or_not count a) (named_or_not count b)

-- four numbers are a rectangle's or not
span_or_not : (a b : ℤ) → IsSpan a b ⊎ (¬ IsSpan a b)
span_or_not a b = elim (both_or_not (both_or_not (range_or_not a) (range_or_not b)) (at_most_or_not a b)) [
  | inl all ↦ inl (record { first_in = all.0.0; last_in = all.0.1; ordered = all.1 })
  | inr not ↦ inr (λ is. not ((is.first_in, is.last_in), is.ordered))
]

pub rect_or_not : (rect : Rect) → IsRect rect ⊎ (¬ IsRect rect)
rect_or_not rect =
    elim (both_or_not (both_or_not (span_or_not rect.x0 rect.x1) (span_or_not rect.y0 rect.y1)) (at_most_or_not (span rect.x0 rect.x1 *ℤ span rect.y0 rect.y1) (pos 1048576))) [
      | inl all ↦ inl (record { columns = all.0.0; rows = all.0.1; points = all.1 })
      | inr not ↦ inr (λ is. not ((is.columns, is.rows), is.points))
    ]
