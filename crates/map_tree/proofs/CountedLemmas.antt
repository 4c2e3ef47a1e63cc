-- How many points of a rectangle lie in each sector: there is one list of pairs that tells it.
use Rattle.std.proofs.Common.{ℕ, zero, suc, ◌+◌, ◌<◌, ◌≤◌, ◌≡◌, inl, inr, refl, sym, ◌∙◌, subst, List, [], ◌∷◌, ◌++◌, length, get_or, map, ℤ, pos, ◌+ℤ◌, ◌≤ℤ◌, ◌<ℤ◌, arith}
use Rattle.std.proofs.lemmas.Int.{ints}
use Rattle.std.proofs.lemmas.Bool.{cases_lt}
use Rattle.std.proofs.lemmas.List.Elements.{All-contains}
use Rattle.std.proofs.lemmas.List.FromFn.{get_or-map-range_with_len, length-map-range_with_len}
use Rattle.std.proofs.Math.ListN.{get_or-eq_default}
use Rattle.std.specs.List.{Contains, range_with_len}
use Rattle.map_geo.specs.Point.{Point, point_at}
use Rattle.map_geo.specs.Rect.{Rect, rows_of, columns_of}
use Rattle.map_level.specs.Level.{Level}
use Rattle.map_level.proofs.OneListLemmas.{one_list}
use Rattle.map_tree.specs.Sound.{IsSound}
use Rattle.map_tree.specs.Counts.{ArePairs}
use Rattle.map_tree.specs.PlainCount.{TellsSectors, row_count, rows_count, plain_count}
use Rattle.map_tree.proofs.LeafLemmas.{some_leaf}
use Rattle.map_tree.proofs.SoundLemmas.{sector_below}
use Rattle.map_tree.proofs.CountLemmas.{one_at-other}
use Rattle.map_tree.proofs.PairLemmas.{SoFar, SoFar-start, SoFar-skip, SoFar-push, SoFar-end}

over : (count : ℕ → ℕ) (p q : List (ℕ × ℕ)) → ArePairs count p → ArePairs count q → (x : ℕ × ℕ) → Contains p x → Contains q x
over count p q a b x c =
    let is : x.1 ≡ count x.0 = All-contains (λ (y : ℕ × ℕ). y.1 ≡ count y.0) p x a.right c in
    let some : 0 < x.1 = All-contains (λ (y : ℕ × ℕ). 0 < y.1) p x a.some c in
    subst (λ n. Contains q (x.0, n)) (sym is) (b.each x.0 (subst (λ n. 0 < n) is some))

pub one_list_of_pairs : (count : ℕ → ℕ) (p q : List (ℕ × ℕ)) → ArePairs count p → ArePairs count q → p ≡ q
one_list_of_pairs count p q a b = one_list (λ (x y : ℕ × ℕ). x.0 < y.0) (λ x y h k. omega (arith, h, k)) p q a.ascending b.ascending (over count p q a b) (over count q p b a)

-- the pairs of the first numbers of a list
pairs_to : (counts : List ℕ) (i : ℕ) → i ≤ length counts → (pairs : List (ℕ × ℕ)) × SoFar counts i pairs
pairs_to counts zero h = ([], SoFar-start counts)
pairs_to counts (suc i) h =
    let before = pairs_to counts i (omega arith) in
    let next : suc i ≡ i + 1 = omega arith in
    elim (cases_lt 0 (get_or counts i 0)) [
      | inl some ↦ (before.0 ++ ((i, get_or counts i 0) ∷ []), rw next (SoFar-push counts i (get_or counts i 0) before.0 (omega arith) refl some before.1))
      | inr none ↦ (before.0, rw next (SoFar-skip counts i before.0 (omega arith) (omega (arith, none)) before.1))
    ]

-- pairs of a function are those of another that is the same
pub same_pairs : (f g : ℕ → ℕ) (pairs : List (ℕ × ℕ)) → ((s : ℕ) → f s ≡ g s) → ArePairs f pairs → ArePairs g pairs
same_pairs f g pairs same are = record {
  right = λ k d h. are.right k d h ∙ same (get_or pairs k d).0;
  some = are.some;
  ascending = are.ascending;
  each = λ s above. subst (λ n. Contains pairs (s, n)) (same s) (are.each s (subst (λ n. 0 < n) (sym (same s)) above));
}

-- where a function has none from a number on, there is a list of its pairs
pub some_pairs : (count : ℕ → ℕ) (n : ℕ) → ((s : ℕ) → n ≤ s → count s ≡ 0) → (pairs : List (ℕ × ℕ)) × ArePairs count pairs
some_pairs count n none =
    let counts : List ℕ = map count (range_with_len 0 n) in
    let long : length counts ≡ n = length-map-range_with_len count 0 n in
    let made = pairs_to counts (length counts) (omega arith) in
    let same : (s : ℕ) → get_or counts s 0 ≡ count s = λ s. elim (cases_lt s n) [
      | inl below ↦ get_or-map-range_with_len count 0 n s s 0 below (omega arith)
      | inr past ↦ get_or-eq_default counts 0 {n = s} (omega (arith, long, past)) ∙ sym (none s (omega (arith, past)))
    ] in
    (made.0, same_pairs (λ s. get_or counts s 0) count made.0 same (SoFar-end counts (length counts) made.0 (omega arith) made.1))

-- a sector that no point of a rectangle lies in has none of its points
module _ (sector : Point → ℕ) (s : ℕ) where
  row-none : (y x : ℤ) (n : ℕ) → ((i : ℤ) → x ≤ℤ i → i <ℤ (x +ℤ pos n) → sector (point_at i y) < s) → row_count sector s y x n ≡ 0
  row-none y x zero below = refl
  row-none y x (suc n) below =
      let less = below x (omega (arith, ints)) (omega (arith, ints)) in
      let first = one_at-other s (sector (point_at x y)) (λ e. omega (arith, e, less)) in
      let rest = row-none y (x +ℤ pos 1) n (λ i from to. below i (omega (arith, ints)) (omega (arith, ints))) in
      omega (arith, first, rest)

  rows-none : (x : ℤ) (n : ℕ) (y : ℤ) (k : ℕ) → ((i j : ℤ) → x ≤ℤ i → i <ℤ (x +ℤ pos n) → y ≤ℤ j → j <ℤ (y +ℤ pos k) → sector (point_at i j) < s) → rows_count sector s x n y k ≡ 0
  rows-none x n y zero below = refl
  rows-none x n y (suc k) below =
      let first = row-none y x n (λ i from to. below i y from to (omega (arith, ints)) (omega (arith, ints))) in
      let rest = rows-none x n (y +ℤ pos 1) k (λ i j a b c d. below i j a b (omega (arith, ints)) (omega (arith, ints))) in
      omega (arith, first, rest)

-- in a sound level each point's sector is one of the level's
sector_in : (level : Level) (sector : Point → ℕ) (point : Point) → IsSound level → TellsSectors level sector → sector point < length level.sectors.records
sector_in level sector point sound tells =
    let leaf = some_leaf level point sound in
    sector_below level leaf.0 (sector point) (tells point leaf.0 leaf.1)

-- a sound level has a list of the pairs of each rectangle
pub some_counts : (level : Level) (sector : Point → ℕ) (rect : Rect) → IsSound level → TellsSectors level sector
    → (pairs : List (ℕ × ℕ)) × ArePairs (λ s. plain_count sector s rect) pairs
some_counts level sector rect sound tells =
    let n = length level.sectors.records in
    some_pairs (λ s. plain_count sector s rect) n
    (λ s past. rows-none sector s rect.x0 (columns_of rect) rect.y0 (rows_of rect) (λ i j a b c d. let below = sector_in level sector (point_at i j) sound tells in omega (arith, below, past)))
