-- The column at which a row's side changes, by a division.
use Rattle.std.proofs.Common.{ℕ, zero, suc, ◌+◌, ◌*◌, ◌/◌, ◌%◌, ◌<◌, ◌≤◌, ℤ, pos, negsuc, ◌+ℤ◌, ◌-ℤ◌, ◌*ℤ◌, ◌≤ℤ◌, ◌<ℤ◌, ◌≡◌, refl, sym, ap, ◌∙◌, subst, arith}
use Rattle.std.proofs.lemmas.Int.{ints, by_lt_z}
use Rattle.std.proofs.lemmas.Nat.{div-add-mod', mod_below}
use Rattle.std.proofs.Math.Nat.{mul-lt-mul_of_pos_right}
use Rattle.std.specs.Prelude.{unsigned_abs}
use borrow.Author.Differences.{up, down}
use Rattle.map_geo.specs.declared.sides.Side.{Side}
use Rattle.map_geo.specs.declared.sides.Side.TheVariants.{Front, Back}
use Rattle.map_geo.specs.Partition.{Partition}
use Rattle.map_geo.specs.Point.{point_at}
use Rattle.map_geo.specs.Side.{cross, side_of, other}
use Rattle.map_geo.proofs.AlongLemmas.{sides_along_rows, row_stays}
use Rattle.map_geo.proofs.SignLemmas.{side_of-front, side_of-back, cross-front, cross-back}
use Rattle.map_tree.specs.Cuts.{IsLast}
use Rattle.map_tree.proofs.RowLemmas.{not_other}

-- a factor goes into a sum
mul-add_pos : (k u : ℤ) (q : ℕ) → k *ℤ (u +ℤ pos q) ≡ k *ℤ u +ℤ k *ℤ pos q
mul-add_pos (pos n) u q =
    let sum : up (u +ℤ pos q) + down u ≡ down (u +ℤ pos q) + (up u + q) = omega (arith, ints) in
    let product : n * (up (u +ℤ pos q) + down u) ≡ n * (down (u +ℤ pos q) + (up u + q)) = ap (λ t. n * t) sum in
    omega (arith, ints, product)
mul-add_pos (negsuc n) u q =
    let sum : up (u +ℤ pos q) + down u ≡ down (u +ℤ pos q) + (up u + q) = omega (arith, ints) in
    let product : suc n * (up (u +ℤ pos q) + down u) ≡ suc n * (down (u +ℤ pos q) + (up u + q)) = ap (λ t. suc n * t) sum in
    omega (arith, ints, product)

reordered : (a z : ℤ) (q : ℕ) → (a +ℤ pos q) -ℤ z ≡ (a -ℤ z) +ℤ pos q
reordered a z q = omega (arith, ints)

less_then : (a b r : ℤ) → (a +ℤ b) -ℤ r ≡ (a -ℤ r) +ℤ b
less_then a b r = omega (arith, ints)

-- the cross product changes by dy from a column to the next
pub cross_right : (line : Partition) (y a : ℤ) (q : ℕ) → cross line (point_at (a +ℤ pos q) y) ≡ cross line (point_at a y) +ℤ line.dy *ℤ pos q
cross_right line y a q =
    ap (λ z. line.dy *ℤ z -ℤ line.dx *ℤ (y -ℤ line.y)) (reordered a line.x q)
    ∙ (ap (λ z. z -ℤ line.dx *ℤ (y -ℤ line.y)) (mul-add_pos line.dy (a -ℤ line.x) q)
    ∙ less_then (line.dy *ℤ (a -ℤ line.x)) (line.dy *ℤ pos q) (line.dx *ℤ (y -ℤ line.y)))

-- so many columns right of x0, a row has side s before the line is met, and the other one behind it: the line comes nearer by a step with
-- each column
pub record Nears (line : Partition) (y : ℤ) (s : Side) (x0 : ℤ) (distance step : ℕ) : Type 0 where
  pub some : 0 < step
  pub before : (q : ℕ) → q * step < distance → side_of line (point_at (x0 +ℤ pos q) y) ≡ s
  pub behind : (q : ℕ) → distance < q * step → side_of line (point_at (x0 +ℤ pos q) y) ≡ other s

rises_below : (c d : ℤ) (n q : ℕ) → c ≤ℤ pos 0 → d ≡ c +ℤ pos (suc n) *ℤ pos q → q * suc n < unsigned_abs c → d <ℤ pos 0
rises_below c d n q below e less = omega (arith, ints, e, less, below)

rises_above : (c d : ℤ) (n q : ℕ) → c ≤ℤ pos 0 → d ≡ c +ℤ pos (suc n) *ℤ pos q → unsigned_abs c < q * suc n → pos 0 <ℤ d
rises_above c d n q below e more = omega (arith, ints, e, more, below)

falls_above : (c d : ℤ) (n q : ℕ) → pos 0 ≤ℤ c → d ≡ c +ℤ negsuc n *ℤ pos q → q * suc n < unsigned_abs c → pos 0 <ℤ d
falls_above c d n q above e less = omega (arith, ints, e, less, above)

falls_below : (c d : ℤ) (n q : ℕ) → pos 0 ≤ℤ c → d ≡ c +ℤ negsuc n *ℤ pos q → unsigned_abs c < q * suc n → d <ℤ pos 0
falls_below c d n q above e more = omega (arith, ints, e, more, above)

rises_more : (c d : ℤ) (n w : ℕ) → pos 0 ≤ℤ c → d ≡ c +ℤ pos (suc n) *ℤ pos (suc w) → pos 0 <ℤ d
rises_more c d n w above e = omega (arith, ints, e, above)

falls_more : (c d : ℤ) (n w : ℕ) → c ≤ℤ pos 0 → d ≡ c +ℤ negsuc n *ℤ pos (suc w) → d <ℤ pos 0
falls_more c d n w below e = omega (arith, ints, e, below)

not_back : Front ≡ Back → ⊥
not_back e = cc

module _ (line : Partition) (y x0 c : ℤ) (is : c ≡ cross line (point_at x0 y)) where
  across : (k : ℤ) → line.dy ≡ k → (q : ℕ) → cross line (point_at (x0 +ℤ pos q) y) ≡ c +ℤ k *ℤ pos q
  across k steep q = cross_right line y x0 q ∙ (ap (λ z. z +ℤ line.dy *ℤ pos q) (sym is) ∙ ap (λ z. c +ℤ z *ℤ pos q) steep)

  rises : (n : ℕ) → line.dy ≡ pos (suc n) → c ≤ℤ pos 0 → Nears line y Back x0 (unsigned_abs c) (suc n)
  rises n up below = record {
    some = omega arith;
    before = λ q less. side_of-back line (point_at (x0 +ℤ pos q) y) _ refl (rises_below c _ n q below (across _ up q) less);
    behind = λ q more. side_of-front line (point_at (x0 +ℤ pos q) y) _ refl (rises_above c _ n q below (across _ up q) more);
  }

  falls : (n : ℕ) → line.dy ≡ negsuc n → pos 0 ≤ℤ c → Nears line y Front x0 (unsigned_abs c) (suc n)
  falls n down above = record {
    some = omega arith;
    before = λ q less. side_of-front line (point_at (x0 +ℤ pos q) y) _ refl (falls_above c _ n q above (across _ down q) less);
    behind = λ q more. side_of-back line (point_at (x0 +ℤ pos q) y) _ refl (falls_below c _ n q above (across _ down q) more);
  }

  nears_by : (s : Side) (w : ℕ) (k : ℤ) → line.dy ≡ k → side_of line (point_at x0 y) ≡ s → side_of line (point_at (x0 +ℤ pos (suc w)) y) ≡ other s
      → Nears line y s x0 (unsigned_abs c) (unsigned_abs k)
  nears_by s w (pos zero) flat left right = absurd (not_other s (sym left ∙ (row_stays line y x0 _ flat ∙ right)))
  nears_by Front w (pos (suc n)) up left right =
      absurd (not_back (sym (side_of-front line (point_at (x0 +ℤ pos (suc w)) y) _ refl (rises_more c _ n w (subst (λ z. pos 0 ≤ℤ z) (sym is) (cross-front line (point_at x0 y) left)) (across _ up (suc w)))) ∙ right))
  nears_by Back w (pos (suc n)) up left right = rises n up (subst (λ z. z ≤ℤ pos 0) (sym is) (cross-back line (point_at x0 y) left))
  nears_by Front w (negsuc n) down left right = falls n down (subst (λ z. pos 0 ≤ℤ z) (sym is) (cross-front line (point_at x0 y) left))
  nears_by Back w (negsuc n) down left right =
      absurd (not_back (sym right ∙ side_of-back line (point_at (x0 +ℤ pos (suc w)) y) _ refl (falls_more c _ n w (subst (λ z. z ≤ℤ pos 0) (sym is) (cross-back line (point_at x0 y) left)) (across _ down (suc w)))))

columns_between : (x0 x1 : ℤ) → x0 <ℤ x1 → (w : ℕ) × (x1 ≡ x0 +ℤ pos (suc w))
columns_between x0 x1 ordered = (unsigned_abs (x1 -ℤ x0 -ℤ pos 1), omega (arith, ints))

-- a row whose ends have both sides nears the line
pub nears : (line : Partition) (y : ℤ) (s : Side) (x0 x1 c : ℤ) → x0 <ℤ x1 → c ≡ cross line (point_at x0 y) → side_of line (point_at x0 y) ≡ s
    → side_of line (point_at x1 y) ≡ other s → Nears line y s x0 (unsigned_abs c) (unsigned_abs line.dy)
nears line y s x0 x1 c ordered is left right =
    let more = columns_between x0 x1 ordered in
    nears_by line y x0 c is s more.0 line.dy refl left (subst (λ x. side_of line (point_at x y) ≡ other s) more.1 right)

-- a column with the side and the next one without it
last_where : (line : Partition) (y : ℤ) (s : Side) (x0 x1 c : ℤ) → x0 ≤ℤ c → c <ℤ x1 → side_of line (point_at c y) ≡ s
    → side_of line (point_at (c +ℤ pos 1) y) ≡ other s → side_of line (point_at x1 y) ≡ other s → IsLast line y s x0 x1 c
last_where line y s x0 x1 c from below has next right = record {
  from = from;
  below = below;
  has = has;
  others = λ x after to. sides_along_rows line y (c +ℤ pos 1) x x1 (omega (arith, ints)) to (next ∙ sym right) ∙ next;
}

not_further : (q step distance w : ℕ) → 0 < step → q * step ≤ distance → w < q → w * step < distance
not_further q step distance w some enough less = omega (arith, mul-lt-mul_of_pos_right {k = step} less some)

one_further : (q step distance r : ℕ) → distance ≡ q * step + r → r < step → distance < (q + 1) * step
one_further q step distance r e less = omega arith

next_column : (x0 : ℤ) (q : ℕ) → (x0 +ℤ pos q) +ℤ pos 1 ≡ x0 +ℤ pos (q + 1)
next_column x0 q = omega (arith, ints)

module _ (line : Partition) (y : ℤ) (s : Side) (x0 x1 : ℤ) (distance step : ℕ) (near : Nears line y s x0 distance step) (right : side_of line (point_at x1 y) ≡ other s) (ordered : x0 <ℤ x1) where
  abbrev met : ℕ
  met = distance / step

  apart : distance ≡ met * step + distance % step
  apart = sym (div-add-mod' distance step)

  pub met_within : (x0 +ℤ pos met) ≤ℤ x1
  met_within = by_lt_z x1 (x0 +ℤ pos met)
      (λ past.
      let more = columns_between x0 x1 ordered in
      let short : suc more.0 < met = omega (arith, ints, more.1) in
      absurd (not_other s (sym (near.before (suc more.0) (not_further met step distance (suc more.0) near.some (omega (arith, apart)) short)) ∙ subst (λ x. side_of line (point_at x y) ≡ other s) more.1 right)))
      (λ within. within)

  pub side_off_line : (distance % step ≡ 0 → ⊥) → side_of line (point_at (x0 +ℤ pos met) y) ≡ s
  side_off_line off = near.before met (omega (arith, apart))

  pub last_at : side_of line (point_at (x0 +ℤ pos met) y) ≡ s → IsLast line y s x0 x1 (x0 +ℤ pos met)
  last_at has =
      let next : side_of line (point_at ((x0 +ℤ pos met) +ℤ pos 1) y) ≡ other s = rw next_column (near.behind (met + 1) (one_further met step distance (distance % step) apart (mod_below distance step near.some))) in
      last_where line y s x0 x1 (x0 +ℤ pos met) (omega (arith, ints))
      (by_lt_z (x0 +ℤ pos met) x1 (λ below. below)
      (λ past. let same : x0 +ℤ pos met ≡ x1 = omega (arith, ints, met_within) in absurd (not_other s (sym has ∙ (ap (λ x. side_of line (point_at x y)) same ∙ right)))))
      has next right

  last_of : (q : ℕ) → met ≡ q → distance % step ≡ 0 → side_of line (point_at x0 y) ≡ s → side_of line (point_at (x0 +ℤ pos met) y) ≡ other s
      → IsLast line y s x0 x1 ((x0 +ℤ pos met) -ℤ pos 1)
  last_of zero e on left has_not =
      let same : x0 +ℤ pos met ≡ x0 = omega (arith, ints, e) in
      absurd (not_other s (sym left ∙ (sym (ap (λ x. side_of line (point_at x y)) same) ∙ has_not)))
  last_of (suc p) e on left has_not =
      let column : (x0 +ℤ pos met) -ℤ pos 1 ≡ x0 +ℤ pos p = omega (arith, ints, e) in
      let next : x0 +ℤ pos met ≡ (x0 +ℤ pos p) +ℤ pos 1 = omega (arith, ints, e) in
      let nearer : distance ≡ suc p * step = apart ∙ (ap (λ r. met * step + r) on ∙ (ap (λ q. q * step + 0) e ∙ omega arith)) in
      rw column (last_where line y s x0 x1 (x0 +ℤ pos p) (omega (arith, ints)) (omega (arith, ints, met_within, e))
      (near.before p (omega (arith, nearer, near.some)))
      (sym (ap (λ x. side_of line (point_at x y)) next) ∙ has_not) right)

  pub last_before : distance % step ≡ 0 → side_of line (point_at x0 y) ≡ s → side_of line (point_at (x0 +ℤ pos met) y) ≡ other s
      → IsLast line y s x0 x1 ((x0 +ℤ pos met) -ℤ pos 1)
  last_before = last_of met refl
