-- Plain counts of parts, and of an area that is all one sector; sums of none.
use Rattle.std.proofs.Common.{ℕ, zero, suc, ◌+◌, ◌*◌, ◌≤◌, ℤ, pos, ◌+ℤ◌, ◌≤ℤ◌, ◌<ℤ◌, ◌≡◌, List, [], ◌∷◌, get_or, refl, ap, arith}
use Rattle.std.proofs.Math.Nat.{suc-add, zero-add, suc-mul, one-le-mul}
use Rattle.std.proofs.lemmas.Bool.Decides.{nat_tests}
use Rattle.std.proofs.lemmas.Int.{ints}
use Rattle.std.proofs.lemmas.List.Sums.{sum_by-cons}
use Rattle.std.specs.List.{sum}
use Rattle.std.specs.Prelude.{unsigned_abs}
use Rattle.map_geo.specs.Point.{Point, point_at}
use Rattle.map_geo.specs.Rect.{Rect, Holds, IsRect, span, rows_of, columns_of, point_count}
use Rattle.map_tree.specs.PlainCount.{one_at, row_count, rows_count, plain_count}
use Rattle.map_tree.specs.Cuts.{rows_to, rows_above, columns_to, columns_right}
use Rattle.map_tree.proofs.BoundLemmas.{IsArea}

step_by : (x : ℤ) (m : ℕ) → x +ℤ pos 1 +ℤ pos m ≡ x +ℤ pos (suc m)
step_by x m = omega (arith, ints)

step_none : (x : ℤ) → x ≡ x +ℤ pos 0
step_none x = omega (arith, ints)

module _ (sector : Point → ℕ) (s : ℕ) where
  row_count-append : (y x : ℤ) (m n : ℕ) → row_count sector s y x (m + n) ≡ row_count sector s y x m + row_count sector s y (x +ℤ pos m) n
  row_count-append y x zero n = rw (zero-add n, zero-add) (ap (λ z. row_count sector s y z n) (step_none x))
  row_count-append y x (suc m) n =
      rw (suc-add m n, row_count-append y (x +ℤ pos 1) m n, step_by x m) (omega arith)

  rows_count-append : (x : ℤ) (n : ℕ) (y : ℤ) (k j : ℕ) → rows_count sector s x n y (k + j) ≡ rows_count sector s x n y k + rows_count sector s x n (y +ℤ pos k) j
  rows_count-append x n y zero j = rw (zero-add j, zero-add) (ap (λ z. rows_count sector s x n z j) (step_none y))
  rows_count-append x n y (suc k) j =
      rw (suc-add k j, rows_count-append x n (y +ℤ pos 1) k j, step_by y k) (omega arith)

  rows_count-columns : (x : ℤ) (m n : ℕ) (y : ℤ) (k : ℕ) → rows_count sector s x (m + n) y k ≡ rows_count sector s x m y k + rows_count sector s (x +ℤ pos m) n y k
  rows_count-columns x m n y zero = refl
  rows_count-columns x m n y (suc k) =
      rw (row_count-append y x m n, rows_count-columns x m n (y +ℤ pos 1) k) (omega arith)

  -- where each place has sector t
  row_count-full : (y x : ℤ) (n t : ℕ) → ((i : ℤ) → x ≤ℤ i → i <ℤ (x +ℤ pos n) → sector (point_at i y) ≡ t) → row_count sector s y x n ≡ n * one_at s t
  row_count-full y x zero t all = omega arith
  row_count-full y x (suc n) t all =
      rw (all x (omega (arith, ints)) (omega (arith, ints)), row_count-full y (x +ℤ pos 1) n t (λ i from below. all i (omega (arith, ints)) (omega (arith, ints))), suc-mul) (omega arith)

  rows_count-full : (x : ℤ) (n : ℕ) (y : ℤ) (k t : ℕ) → ((i j : ℤ) → x ≤ℤ i → i <ℤ (x +ℤ pos n) → y ≤ℤ j → j <ℤ (y +ℤ pos k) → sector (point_at i j) ≡ t) → rows_count sector s x n y k ≡ k * (n * one_at s t)
  rows_count-full x n y zero t all = omega arith
  rows_count-full x n y (suc k) t all =
      rw (
        row_count-full y x n t (λ i from below. all i y from below (omega (arith, ints)) (omega (arith, ints))),
        rows_count-full x n (y +ℤ pos 1) k t (λ i j a b c d. all i j a b (omega (arith, ints)) (omega (arith, ints))),
        suc-mul,
      ) (omega arith)

span_parts : (a m b : ℤ) → a ≤ℤ m → m <ℤ b → unsigned_abs (span a b) ≡ unsigned_abs (span a m) + unsigned_abs (span (m +ℤ pos 1) b)
span_parts a m b from below = omega (arith, ints)

span_next : (a m : ℤ) → a ≤ℤ m → a +ℤ pos (unsigned_abs (span a m)) ≡ m +ℤ pos 1
span_next a m from = omega (arith, ints)

within : (a b i : ℤ) → a ≤ℤ b → i <ℤ (a +ℤ pos (unsigned_abs (span a b))) → i ≤ℤ b
within a b i ordered below = omega (arith, ints)

module _ (sector : Point → ℕ) (s : ℕ) (b : Rect) where
  pub plain-rows : (y : ℤ) → b.y0 ≤ℤ y → y <ℤ b.y1 → plain_count sector s b ≡ plain_count sector s (rows_to b y) + plain_count sector s (rows_above b y)
  plain-rows y from below =
      rw (span_parts b.y0 y b.y1 from below, rows_count-append sector s b.x0 (columns_of b) b.y0 (unsigned_abs (span b.y0 y)) (unsigned_abs (span (y +ℤ pos 1) b.y1)), span_next b.y0 y from)

  pub plain-columns : (x : ℤ) → b.x0 ≤ℤ x → x <ℤ b.x1 → plain_count sector s b ≡ plain_count sector s (columns_to b x) + plain_count sector s (columns_right b x)
  plain-columns x from below =
      rw (span_parts b.x0 x b.x1 from below, rows_count-columns sector s b.x0 (unsigned_abs (span b.x0 x)) (unsigned_abs (span (x +ℤ pos 1) b.x1)) b.y0 (rows_of b), span_next b.x0 x from)

  pub plain-full : (t : ℕ) → IsArea b → ((place : Point) → Holds b place → sector place ≡ t) → plain_count sector s b ≡ rows_of b * (columns_of b * one_at s t)
  plain-full t area all =
      rows_count-full sector s b.x0 (columns_of b) b.y0 (rows_of b) t
      (λ i j left right low high. all (point_at i j) (record { left = left; right = within b.x0 b.x1 i area.columns right; lowest = low; highest = within b.y0 b.y1 j area.rows high }))

pub area-rows : (b : Rect) (y : ℤ) → b.y0 ≤ℤ y → y <ℤ b.y1 → point_count b ≡ point_count (rows_to b y) + point_count (rows_above b y)
area-rows b y from below = rw (span_parts b.y0 y b.y1 from below) (omega arith)

pub area-columns : (b : Rect) (x : ℤ) → b.x0 ≤ℤ x → x <ℤ b.x1 → point_count b ≡ point_count (columns_to b x) + point_count (columns_right b x)
area-columns b x from below = rw (span_parts b.x0 x b.x1 from below) (omega arith)

some_span : (a b : ℤ) → a ≤ℤ b → 1 ≤ unsigned_abs (span a b)
some_span a b h = omega (arith, ints)

pub area-some : (b : Rect) → IsArea b → 1 ≤ point_count b
area-some b area = one-le-mul (some_span b.y0 b.y1 area.rows) (some_span b.x0 b.x1 area.columns)

-- a rectangle's rows are few
pub rows_few : (b : Rect) → IsRect b → rows_of b ≤ 32768
rows_few b valid = omega (arith, ints, valid.rows.first_in.least, valid.rows.last_in.greatest, valid.rows.ordered)

pub one_at-same : (s k : ℕ) → s ≡ k → one_at s k ≡ 1
one_at-same s k e = grind (arith, nat_tests)

pub one_at-other : (s k : ℕ) → (s ≡ k → ⊥) → one_at s k ≡ 0
one_at-other s k e = grind (arith, nat_tests)

-- a list of zeros adds up to none
pub sum_zeros : (counts : List ℕ) → ((s : ℕ) → get_or counts s 0 ≡ 0) → sum counts ≡ 0
sum_zeros [] zeros = refl
sum_zeros (n ∷ counts) zeros =
    let first : n ≡ 0 = zeros 0 in
    omega (arith, first, sum_zeros counts (λ s. zeros (suc s)), sum_by-cons (λ x. x) n counts)
