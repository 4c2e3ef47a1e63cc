-- The counts of all sectors add up to a rectangle's points.
use Rattle.std.proofs.Common.{ℕ, zero, suc, ◌+◌, ◌*◌, ◌<◌, ℤ, pos, ◌+ℤ◌, ◌≤ℤ◌, ◌<ℤ◌, ◌≡◌, refl, sym, ap, ◌∙◌, subst, List, [], ◌∷◌, length, get_or, arith}
use Rattle.std.proofs.Math.Nat.{suc-mul}
use Rattle.std.proofs.lemmas.Int.{ints, by_lt_z}
use Rattle.std.proofs.lemmas.List.Sums.{sum_by-cons}
use Rattle.std.specs.List.{All, AllPairs, sum_by}
use Rattle.map_geo.specs.Point.{Point, point_at}
use Rattle.map_geo.specs.Rect.{Rect, rows_of, columns_of, point_count}
use Rattle.map_tree.specs.PlainCount.{one_at, row_count, rows_count, plain_count}
use Rattle.map_tree.specs.Counts.{ArePairs}
use Rattle.map_tree.proofs.CountLemmas.{one_at-same, one_at-other}

sum_none : (pairs : List (ℕ × ℕ)) → sum_by (λ (pair : ℕ × ℕ). zero) pairs ≡ 0
sum_none [] = refl
sum_none (p ∷ pairs) = omega (arith, sum_by-cons (λ (pair : ℕ × ℕ). zero) p pairs, sum_none pairs)

sum_both : (f g : ℕ × ℕ → ℕ) (pairs : List (ℕ × ℕ)) → sum_by (λ pair. f pair + g pair) pairs ≡ sum_by f pairs + sum_by g pairs
sum_both f g [] = refl
sum_both f g (p ∷ pairs) =
    omega (arith, sum_by-cons (λ pair. f pair + g pair) p pairs, sum_by-cons f p pairs, sum_by-cons g p pairs, sum_both f g pairs)

sum_same : (f g : ℕ × ℕ → ℕ) (pairs : List (ℕ × ℕ)) → All (λ pair. f pair ≡ g pair) pairs → sum_by f pairs ≡ sum_by g pairs
sum_same f g [] all = refl
sum_same f g (p ∷ pairs) all =
    let first : f p ≡ g p = all 0 p (omega arith) in
    omega (arith, first, sum_by-cons f p pairs, sum_by-cons g p pairs, sum_same f g pairs (λ k d h. all (suc k) d (omega (arith, h))))

-- a sector is told once by ascending pairs
none_above : (x : ℕ) (pairs : List (ℕ × ℕ)) → All (λ pair. x < pair.0) pairs → sum_by (λ pair. one_at pair.0 x) pairs ≡ 0
none_above x [] all = refl
none_above x (p ∷ pairs) all =
    let above : x < p.0 = all 0 p (omega arith) in
    omega (arith, one_at-other p.0 x (λ e. omega (arith, e, above)), sum_by-cons (λ (pair : ℕ × ℕ). one_at pair.0 x) p pairs, none_above x pairs (λ k d h. all (suc k) d (omega (arith, h))))

one_once : (x n : ℕ) (pairs : List (ℕ × ℕ)) (k : ℕ) → k < length pairs → get_or pairs k (x, n) ≡ (x, n) → AllPairs (λ pair next. pair.0 < next.0) pairs → sum_by (λ pair. one_at pair.0 x) pairs ≡ 1
one_once x n [] k h e ascending = absurd (omega (arith, h))
one_once x n (p ∷ pairs) zero h e ascending =
    let same : p.0 ≡ x = ap (λ (q : ℕ × ℕ). q.0) e in
    let above : All (λ pair. x < pair.0) pairs = λ j d below. subst (λ y. y < (get_or pairs j d).0) same (ascending 0 (suc j) d (omega arith) (omega (arith, below))) in
    omega (arith, one_at-same p.0 x same, sum_by-cons (λ (pair : ℕ × ℕ). one_at pair.0 x) p pairs, none_above x pairs above)
one_once x n (p ∷ pairs) (suc k) h e ascending =
    let less : p.0 < (get_or pairs k (x, n)).0 = ascending 0 (suc k) (x, n) (omega arith) h in
    let same : (get_or pairs k (x, n)).0 ≡ x = ap (λ (q : ℕ × ℕ). q.0) e in
    omega (
      arith,
      one_at-other p.0 x (λ f. omega (arith, f, less, same)),
      sum_by-cons (λ (pair : ℕ × ℕ). one_at pair.0 x) p pairs,
      one_once x n pairs k (omega (arith, h)) e (λ i j d a b. ascending (suc i) (suc j) d (omega (arith, a)) (omega (arith, b))),
    )

module _ (sector : Point → ℕ) where
  -- each point of a row or a rectangle is one of its sector's
  row_some : (y x : ℤ) (n : ℕ) (i : ℤ) → x ≤ℤ i → i <ℤ (x +ℤ pos n) → 0 < row_count sector (sector (point_at i y)) y x n
  row_some y x zero i from below = absurd (omega (arith, ints, from, below))
  row_some y x (suc n) i from below = by_lt_z x i
      (λ after. let rest = row_some y (x +ℤ pos 1) n i (omega (arith, ints)) (omega (arith, ints)) in omega (arith, rest))
      (λ not_after.
      let same : i ≡ x = omega (arith, ints) in
      omega (arith, one_at-same (sector (point_at i y)) (sector (point_at x y)) (ap (λ z. sector (point_at z y)) same)))

  rows_some : (x : ℤ) (n : ℕ) (y : ℤ) (k : ℕ) (i j : ℤ) → x ≤ℤ i → i <ℤ (x +ℤ pos n) → y ≤ℤ j → j <ℤ (y +ℤ pos k) → 0 < rows_count sector (sector (point_at i j)) x n y k
  rows_some x n y zero i j left right low high = absurd (omega (arith, ints, low, high))
  rows_some x n y (suc k) i j left right low high = by_lt_z y j
      (λ after. let rest = rows_some x n (y +ℤ pos 1) k i j left right (omega (arith, ints)) (omega (arith, ints)) in omega (arith, rest))
      (λ not_after.
      let same : y ≡ j = omega (arith, ints) in
      let here = row_some j x n i left right in
      omega (arith, subst (λ z. 0 < row_count sector (sector (point_at i j)) z x n) (sym same) here))

  row_total : (pairs : List (ℕ × ℕ)) (y x : ℤ) (n : ℕ) → ((i : ℤ) → x ≤ℤ i → i <ℤ (x +ℤ pos n) → sum_by (λ pair. one_at pair.0 (sector (point_at i y))) pairs ≡ 1) → sum_by (λ pair. row_count sector pair.0 y x n) pairs ≡ n
  row_total pairs y x zero each = sum_none pairs
  row_total pairs y x (suc n) each =
      let first = each x (omega (arith, ints)) (omega (arith, ints)) in
      let rest = row_total pairs y (x +ℤ pos 1) n (λ i from below. each i (omega (arith, ints)) (omega (arith, ints))) in
      sum_both (λ pair. one_at pair.0 (sector (point_at x y))) (λ pair. row_count sector pair.0 y (x +ℤ pos 1) n) pairs ∙ omega (arith, first, rest)

  rows_total : (pairs : List (ℕ × ℕ)) (x : ℤ) (n : ℕ) (y : ℤ) (k : ℕ) → ((i j : ℤ) → x ≤ℤ i → i <ℤ (x +ℤ pos n) → y ≤ℤ j → j <ℤ (y +ℤ pos k) → sum_by (λ pair. one_at pair.0 (sector (point_at i j))) pairs ≡ 1) → sum_by (λ pair. rows_count sector pair.0 x n y k) pairs ≡ k * n
  rows_total pairs x n y zero each = sum_none pairs ∙ omega arith
  rows_total pairs x n y (suc k) each =
      let first = row_total pairs y x n (λ i from below. each i y from below (omega (arith, ints)) (omega (arith, ints))) in
      let rest = rows_total pairs x n (y +ℤ pos 1) k (λ i j a b c d. each i j a b (omega (arith, ints)) (omega (arith, ints))) in
      sum_both (λ pair. row_count sector pair.0 y x n) (λ pair. rows_count sector pair.0 x n (y +ℤ pos 1) k) pairs ∙ rw (suc-mul k n) (omega (arith, first, rest))

  pub counts_total : (rect : Rect) (pairs : List (ℕ × ℕ)) → ArePairs (λ s. plain_count sector s rect) pairs → sum_by (λ pair. pair.1) pairs ≡ point_count rect
  counts_total rect pairs are =
      sum_same (λ pair. pair.1) (λ pair. plain_count sector pair.0 rect) pairs are.right
      ∙ rows_total pairs rect.x0 (columns_of rect) rect.y0 (rows_of rect) (λ i j left right low high.
      let some = rows_some rect.x0 (columns_of rect) rect.y0 (rows_of rect) i j left right low high in
      let told = are.each (sector (point_at i j)) some in
      one_once (sector (point_at i j)) _ pairs told.0 told.1 told.2 are.ascending)
