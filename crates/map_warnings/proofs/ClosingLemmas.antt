-- Sides by their numbers in order, and the vertexes at which sectors aren't closed.
use Rattle.std.proofs.Common.{◌≡◌, ◌≢◌, ℕ, zero, suc, ◌+◌, ◌-◌, ◌*◌, ◌/◌, ◌<◌, ◌≤◌, Bool, true, false, inl, inr, List, [], ◌∷◌, ◌++◌, length, get_or, map, take, min, Some, refl, sym, ap, subst, ◌∙◌, arith}
use Rattle.std.specs.Prelude.{◌==◌, ◌&&◌, ◌%◌, ◌^◌, ◌↔◌, ⊤, ℤ, pos, negsuc, Option, None, All, IfSome, cond, count_by, option_and_then, option_to_list}
use Rattle.std.specs.List.Sorted.{IsNonDecreasing, IsPermutation, IsSorted}
use Rattle.std.specs.Ordering.{nat_cmp}
use Rattle.std.proofs.lemmas.Bool.{cases_eq, cases_lt, eq-eqb, le-ltb, lt-ltb, ne_eqb}
use Rattle.std.specs.List.{flat_map, slice_get}
use Rattle.std.proofs.lemmas.List.{append-nil, append_assoc, flat_map_more, take_all, take_more}
use Rattle.std.proofs.lemmas.Option.{get_or_from_slice_get, slice_get_within}
use Rattle.le_rec.specs.declared.records.LineDef.{LineDef}
use Rattle.std.proofs.lemmas.List.Elements.{All-append, All-cons, All-head, All-nil, All-tail, All-weaker}
use Rattle.std.proofs.lemmas.List.Sorted.{All-permutation, IsNonDecreasingBy-from_sort, sum_by-IsPermutation}
use Rattle.std.proofs.lemmas.List.Sums.{count_by_more_yes, count_by_more_no, sum_by-cons}
use Rattle.map_level.specs.Level.{Level}
use Rattle.map_level.specs.Reading.{linedef_under}
use Rattle.map_warnings.specs.declared.closing.SideRun.{SideRun}
use Rattle.map_warnings.specs.declared.warning.Warning.{Warning}
use Rattle.map_warnings.specs.declared.warning.Warning.TheVariants.{Unclosed, Game}
use Rattle.level_codes.specs.declared.code.WarningCode.TheVariants.{W1}
use Rattle.map_warnings.specs.Closing.{run_of, runs_of, runs_of_linedef, leaving, reaching, IsUnclosed}
use Rattle.map_warnings.specs.Balance.{AreBalanced, end_in, sector_in}
use Rattle.map_level.specs.Links.{linedefs_of, sectors_of, vertexes_of}
use Rattle.map_level.specs.SectorOf.{number_named, sidedef_named}
use Rattle.map_warnings.specs.RunNumbers.{pair_number, numbers_of, IsShortRun, AddsRuns, AreRunNumbers, pair_bound}
use Rattle.map_warnings.specs.Warnings.{rank}
use Rattle.map_warnings.specs.Holds.{HoldsOf}
use Rattle.map_warnings.specs.Laws.{ClosedIsBalanced}
use Rattle.map_warnings.proofs.GameLemmas.{game_only}

-- where a test passes from one place to another alone, so many pass
module _ (p : ℕ → Bool) (xs : List ℕ) (a b : ℕ) (order : a ≤ b) (within : b ≤ length xs)
    (before : (j : ℕ) → j < a → p (get_or xs j 0) ≡ false)
    (between : (j : ℕ) → a ≤ j → j < b → p (get_or xs j 0) ≡ true)
    (behind : (j : ℕ) → b ≤ j → j < length xs → p (get_or xs j 0) ≡ false) where
  count_to : (n : ℕ) → n ≤ length xs → count_by p (take n xs) ≡ min n b - min n a
  count_to zero h = let none : 0 ≡ min 0 b - min 0 a = omega arith in none
  count_to (suc n) h =
      let inside : n < length xs = omega (arith, h) in
      let so_far = count_to n (omega (arith, h)) in
      let next : suc n ≡ n + 1 = omega arith in
      rw next (elim (cases_lt n a) [
        | inl less ↦
            let step = count_by_more_no p xs n 0 inside (before n less) in
            omega (arith, step, so_far, less, order)
        | inr past ↦ elim (cases_lt n b) [
          | inl less ↦
              let step = count_by_more_yes p xs n 0 inside (between n (omega (arith, past)) less) in
              omega (arith, step, so_far, past, less)
          | inr above ↦
              let step = count_by_more_no p xs n 0 inside (behind n (omega (arith, above)) inside) in
              omega (arith, step, so_far, past, above, order)
        ]
      ])

  pub count_between : count_by p xs ≡ b - a
  count_between =
      let all = count_to (length xs) (omega arith) in
      let same : take (length xs) xs ≡ xs = take_all (length xs) xs (omega arith) in
      let told = rw same at all in
      omega (arith, told, within, order)

-- a number that stands nowhere is counted 0 times
pub count_nowhere : (xs : List ℕ) (n : ℕ) → ((j : ℕ) → j < length xs → get_or xs j 0 ≢ n) → count_by (λ m. m == n) xs ≡ 0
count_nowhere xs n none =
    count_between (λ m. m == n) xs 0 0 (omega arith) (omega arith) (λ j below. absurd (omega (arith, below)))
    (λ j from below. absurd (omega (arith, below))) (λ j from below. ne_eqb (get_or xs j 0) n (none j below))

-- the k-th of some numbers in order is the first whose half is so much, from there on they are twice that up to m, and from
-- there on one more up to e
module _ (xs : List ℕ) (ascending : IsNonDecreasing xs) (k pair : ℕ) (inside : k < length xs) (here : get_or xs k 0 / 2 ≡ pair)
    (first : ¬ ((0 < k) × (get_or xs (k - 1) 0 / 2 ≡ pair)))
    (m e : ℕ) (after : k ≤ m) (from : m ≤ e) (within : e ≤ length xs)
    (even : (j : ℕ) → k ≤ j → j < m → get_or xs j 0 ≡ pair * 2) (not_even : m < length xs → get_or xs m 0 ≢ pair * 2)
    (odd : (j : ℕ) → m ≤ j → j < e → get_or xs j 0 ≡ pair * 2 + 1) (not_odd : e < length xs → get_or xs e 0 ≢ pair * 2 + 1) where
  below_first : (j : ℕ) → j < k → get_or xs j 0 < pair * 2
  below_first j less =
      let one = ascending j (k - 1) 0 (omega (arith, less)) (omega (arith, inside)) in
      let two = ascending (k - 1) k 0 (omega arith) inside in
      elim (cases_lt (get_or xs (k - 1) 0) (pair * 2)) [
        | inl under ↦ omega (arith, one, under)
        | inr over ↦ absurd (first (omega (arith, less), omega (arith, two, over, here)))
      ]

  above_even : (j : ℕ) → m ≤ j → j < length xs → pair * 2 < get_or xs j 0
  above_even j past less =
      let one = ascending k m 0 after (omega (arith, past, less)) in
      let two = ascending m j 0 past less in
      let other = not_even (omega (arith, past, less)) in
      elim (cases_eq (get_or xs m 0) (pair * 2)) [
        | inl same ↦ absurd (other same)
        | inr apart ↦ omega (arith, one, two, here, apart)
      ]

  above_odd : (j : ℕ) → e ≤ j → j < length xs → pair * 2 + 1 < get_or xs j 0
  above_odd j past less =
      let one = above_even e from (omega (arith, past, less)) in
      let two = ascending e j 0 past less in
      let other = not_odd (omega (arith, past, less)) in
      elim (cases_eq (get_or xs e 0) (pair * 2 + 1)) [
        | inl same ↦ absurd (other same)
        | inr apart ↦ omega (arith, one, two, apart)
      ]

  pub even_count : count_by (λ n. n == pair * 2) xs ≡ m - k
  even_count = count_between (λ n. n == pair * 2) xs k m after (omega (arith, from, within))
      (λ j less. ne_eqb (get_or xs j 0) (pair * 2) (let below = below_first j less in λ same. omega (arith, below, same)))
      (λ j past less. eq-eqb (get_or xs j 0) (pair * 2) (even j past less))
      (λ j past less. ne_eqb (get_or xs j 0) (pair * 2) (let above = above_even j past less in λ same. omega (arith, above, same)))

  pub odd_count : count_by (λ n. n == pair * 2 + 1) xs ≡ e - m
  odd_count = count_between (λ n. n == pair * 2 + 1) xs m e from within
      (λ j less. ne_eqb (get_or xs j 0) (pair * 2 + 1) (elim (cases_lt j k) [
        | inl under ↦ let below = below_first j under in λ same. omega (arith, below, same)
        | inr over ↦ let is = even j (omega (arith, over)) less in λ same. omega (arith, is, same)
      ]))
      (λ j past less. eq-eqb (get_or xs j 0) (pair * 2 + 1) (odd j past less))
      (λ j past less. ne_eqb (get_or xs j 0) (pair * 2 + 1) (let above = above_odd j past less in λ same. omega (arith, above, same)))

-- where the pairs before a number end
pub bound_after : (xs : List ℕ) (k : ℕ) → 0 < k → pair_bound xs k ≡ get_or xs (k - 1) 0 / 2 + 1
bound_after xs k some = rw (ne_eqb k 0 (λ e. omega (arith, e, some))) refl

-- a test of the numbers of a pair is one of its two parts
same_pair : (x y s v : ℕ) → y < 65536 → v < 65536 → (pair_number x y * 2 == pair_number s v * 2) ≡ ((x == s) && (y == v))
same_pair x y s v hy hv = elim (cases_eq x s) [
  | inl one ↦ elim (cases_eq y v) [
    | inl two ↦ rw (eq-eqb x s one, eq-eqb y v two, eq-eqb (pair_number x y * 2) (pair_number s v * 2) (omega (arith, one, two))) refl
    | inr other ↦ rw (eq-eqb x s one, ne_eqb y v other, ne_eqb (pair_number x y * 2) (pair_number s v * 2) (λ same. other (omega (arith, one, same)))) refl
  ]
  | inr other ↦ rw (ne_eqb x s other, ne_eqb (pair_number x y * 2) (pair_number s v * 2) (λ same. other (omega (arith, hy, hv, same)))) refl
]

same_odd_pair : (x y s v : ℕ) → y < 65536 → v < 65536 → (pair_number x y * 2 + 1 == pair_number s v * 2 + 1) ≡ ((x == s) && (y == v))
same_odd_pair x y s v hy hv = elim (cases_eq x s) [
  | inl one ↦ elim (cases_eq y v) [
    | inl two ↦ rw (eq-eqb x s one, eq-eqb y v two, eq-eqb (pair_number x y * 2 + 1) (pair_number s v * 2 + 1) (omega (arith, one, two))) refl
    | inr other ↦ rw (eq-eqb x s one, ne_eqb y v other, ne_eqb (pair_number x y * 2 + 1) (pair_number s v * 2 + 1) (λ same. other (omega (arith, one, same)))) refl
  ]
  | inr other ↦ rw (ne_eqb x s other, ne_eqb (pair_number x y * 2 + 1) (pair_number s v * 2 + 1) (λ same. other (omega (arith, hy, hv, same)))) refl
]

-- of the numbers of sides so many are those of a sector and a vertex
reach_counted : (runs : List SideRun) (s v : ℕ) → v < 65536 → All IsShortRun runs
    → count_by (λ n. n == pair_number s v * 2) (numbers_of runs) ≡ count_by (λ run. (run.sector == s) && (run.to == v)) runs
reach_counted [] s v hv short = refl
reach_counted (run ∷ runs) s v hv short =
    let number = pair_number s v * 2 in
    let to = pair_number run.sector run.to * 2 in
    let from = pair_number run.sector run.from * 2 + 1 in
    let here = All-head IsShortRun run runs short in
    let rest = reach_counted runs s v hv (All-tail IsShortRun run runs short) in
    let one = rw (same_pair run.sector run.to s v here.to hv) at (sum_by-cons (λ n. cond (n == number) 1 0) to (from ∷ numbers_of runs)) in
    let two = rw (ne_eqb from number (λ e. omega (arith, e))) at (sum_by-cons (λ n. cond (n == number) 1 0) from (numbers_of runs)) in
    let three = sum_by-cons (λ r. cond ((r.sector == s) && (r.to == v)) 1 0) run runs in
    omega (arith, one, two, three, rest)

leave_counted : (runs : List SideRun) (s v : ℕ) → v < 65536 → All IsShortRun runs
    → count_by (λ n. n == pair_number s v * 2 + 1) (numbers_of runs) ≡ count_by (λ run. (run.sector == s) && (run.from == v)) runs
leave_counted [] s v hv short = refl
leave_counted (run ∷ runs) s v hv short =
    let number = pair_number s v * 2 + 1 in
    let to = pair_number run.sector run.to * 2 in
    let from = pair_number run.sector run.from * 2 + 1 in
    let here = All-head IsShortRun run runs short in
    let rest = leave_counted runs s v hv (All-tail IsShortRun run runs short) in
    let one = rw (ne_eqb to number (λ e. omega (arith, e))) at (sum_by-cons (λ n. cond (n == number) 1 0) to (from ∷ numbers_of runs)) in
    let two = rw (same_odd_pair run.sector run.from s v here.from hv) at (sum_by-cons (λ n. cond (n == number) 1 0) from (numbers_of runs)) in
    let three = sum_by-cons (λ r. cond ((r.sector == s) && (r.from == v)) 1 0) run runs in
    omega (arith, one, two, three, rest)

-- what no side is isn't counted
count_none : (p : SideRun → Bool) (runs : List SideRun) → All (λ run. p run ≡ false) runs → count_by p runs ≡ 0
count_none p [] none = refl
count_none p (run ∷ runs) none =
    let here = All-head (λ r. p r ≡ false) run runs none in
    let rest = count_none p runs (All-tail (λ r. p r ≡ false) run runs none) in
    let step : count_by p (run ∷ runs) ≡ cond (p run) 1 0 + count_by p runs = sum_by-cons (λ r. cond (p r) 1 0) run runs in
    let value : cond {A = ℕ} (p run) 1 0 ≡ 0 = rw here refl in
    omega (arith, step, value, rest)

neither : (b c : Bool) → c ≡ false → (b && c) ≡ false
neither true c h = h
neither false c h = refl

few_numbers : (runs : List SideRun) → All IsShortRun runs → All (λ n. n < 2 ^ 33) (numbers_of runs)
few_numbers [] short = All-nil (λ n. n < 2 ^ 33)
few_numbers (run ∷ runs) short =
    let here = All-head IsShortRun run runs short in
    let rest = few_numbers runs (All-tail IsShortRun run runs short) in
    let to = pair_number run.sector run.to * 2 in
    let from = pair_number run.sector run.from * 2 + 1 in
    All-cons (λ n. n < 2 ^ 33) to (from ∷ numbers_of runs) (omega (arith, here.sector, here.to))
    (All-cons (λ n. n < 2 ^ 33) from (numbers_of runs) (omega (arith, here.sector, here.from)) rest)

-- the numbers of all sides, put in order
pub in_order : (level : Level) (xs ys : List ℕ) → AddsRuns (runs_of level) [] xs → IsPermutation xs ys → IsSorted nat_cmp ys → AreRunNumbers level ys
in_order level xs ys adds moved sorted = record {
  ascending = IsNonDecreasingBy-from_sort (λ x. x) ys sorted;
  counts = λ n. sum_by-IsPermutation (λ m. cond (m == n) 1 0) xs ys moved ∙ ap (count_by (λ m. m == n)) adds.is;
  few = All-permutation (λ n. n < 2 ^ 33) xs ys moved (rw adds.is (few_numbers (runs_of level) adds.short));
  short = adds.short;
}

module _ (level : Level) (short : All IsShortRun (runs_of level)) where
  reaching_past : (s v : ℕ) → 65536 ≤ v → reaching level s v ≡ 0
  reaching_past s v past = count_none (λ run. (run.sector == s) && (run.to == v)) (runs_of level)
      (All-weaker IsShortRun (λ run. ((run.sector == s) && (run.to == v)) ≡ false)
      (λ run own. neither (run.sector == s) (run.to == v) (ne_eqb run.to v (λ e. omega (arith, e, past, own.to)))) (runs_of level) short)

  leaving_past : (s v : ℕ) → 65536 ≤ v → leaving level s v ≡ 0
  leaving_past s v past = count_none (λ run. (run.sector == s) && (run.from == v)) (runs_of level)
      (All-weaker IsShortRun (λ run. ((run.sector == s) && (run.from == v)) ≡ false)
      (λ run own. neither (run.sector == s) (run.from == v) (ne_eqb run.from v (λ e. omega (arith, e, past, own.from)))) (runs_of level) short)

  -- a sector is unclosed at vertexes of 16 bits alone
  unclosed_short : (s v : ℕ) → IsUnclosed level s v → v < 65536
  unclosed_short s v is = elim (cases_lt v 65536) [
    | inl below ↦ below
    | inr past ↦ absurd (is (leaving_past s v past ∙ sym (reaching_past s v past)))
  ]

module _ (level : Level) (numbers : List ℕ) (are : AreRunNumbers level numbers) where
  reaching_is : (s v : ℕ) → v < 65536 → reaching level s v ≡ count_by (λ n. n == pair_number s v * 2) numbers
  reaching_is s v hv = sym (are.counts (pair_number s v * 2) ∙ reach_counted (runs_of level) s v hv are.short)

  leaving_is : (s v : ℕ) → v < 65536 → leaving level s v ≡ count_by (λ n. n == pair_number s v * 2 + 1) numbers
  leaving_is s v hv = sym (are.counts (pair_number s v * 2 + 1) ∙ leave_counted (runs_of level) s v hv are.short)

  pub unclosed_alone : (s v : ℕ) → v < 65536 → (w : Warning) → HoldsOf level W1 w → rank w ≡ pair_number s v → w ≡ Unclosed s v
  unclosed_alone s v hv (Unclosed x y) h e =
      let hy = unclosed_short level are.short x y h.1 in
      let one : x ≡ s = omega (arith, hv, hy, e) in
      let two : y ≡ v = omega (arith, hv, hy, e) in
      rw (one, two) refl
  unclosed_alone s v hv (Game w) h e = absurd (game_only None level W1 w refl h)
  unclosed_alone s v hv w h e = absurd (let other = h.0 in cc)

  -- a pair of which there is no number is closed
  pub unclosed_there : (n : ℕ) → ((j : ℕ) → j < length numbers → get_or numbers j 0 / 2 ≢ n) → (w : Warning) → HoldsOf level W1 w → rank w ≢ n
  unclosed_there n none (Unclosed s v) h e =
      let hv = unclosed_short level are.short s v h.1 in
      let even = count_nowhere numbers (pair_number s v * 2) (λ j below is. none j below (omega (arith, is, e))) in
      let odd = count_nowhere numbers (pair_number s v * 2 + 1) (λ j below is. none j below (omega (arith, is, e))) in
      h.1 (leaving_is s v hv ∙ odd ∙ sym even ∙ sym (reaching_is s v hv))
  unclosed_there n none (Game w) h e = game_only None level W1 w refl h
  unclosed_there n none w h e = let other = h.0 in cc

  -- none holds between the pair before and the one of the k-th number
  pub unclosed_between : (k : ℕ) → k < length numbers → (w : Warning) → HoldsOf level W1 w → pair_bound numbers k ≤ rank w → rank w < get_or numbers k 0 / 2 → ⊥
  unclosed_between k inside w h from to = unclosed_there (rank w) (λ j below is. elim (cases_lt j k) [
    | inl less ↦
        let order = are.ascending j (k - 1) 0 (omega (arith, less)) (omega (arith, inside)) in
        let bound = bound_after numbers k (omega (arith, less)) in
        omega (arith, order, bound, is, from)
    | inr past ↦
        let order = are.ascending k j 0 past below in
        omega (arith, order, is, to)
  ]) w h refl

  -- the pairs before end below the pair of a number that is the first of it
  pub bound_below : (k pair : ℕ) → k < length numbers → get_or numbers k 0 / 2 ≡ pair → ¬ ((0 < k) × (get_or numbers (k - 1) 0 / 2 ≡ pair))
      → pair_bound numbers k ≤ pair
  bound_below k pair inside here first = elim (cases_eq k 0) [
    | inl none ↦ let is : pair_bound numbers k ≡ 0 = rw (eq-eqb k 0 none) refl in omega (arith, is)
    | inr some ↦
        let bound = bound_after numbers k (omega (arith, some)) in
        let order = are.ascending (k - 1) k 0 (omega arith) inside in
        elim (cases_eq (get_or numbers (k - 1) 0 / 2) pair) [
          | inl same ↦ absurd (first (omega (arith, some), same))
          | inr other ↦ omega (arith, bound, order, here, other)
        ]
  ]

  -- and none behind the last one
  pub unclosed_within : (k : ℕ) → length numbers ≤ k → k ≤ length numbers → (w : Warning) → HoldsOf level W1 w → rank w < pair_bound numbers k
  unclosed_within k all most w h = elim (cases_lt (rank w) (pair_bound numbers k)) [
    | inl below ↦ below
    | inr past ↦ absurd (unclosed_there (rank w) (λ j below is.
        let order = are.ascending j (k - 1) 0 (omega (arith, below, most)) (omega (arith, below, all)) in
        let bound = bound_after numbers k (omega (arith, below, all)) in
        omega (arith, order, bound, is, past)) w h refl)
  ]

  -- at the first number of a pair: the sector isn't closed at the vertex where its even and odd numbers aren't as many
  pub unclosed_first : (k pair m e : ℕ) → k < length numbers → get_or numbers k 0 / 2 ≡ pair → ¬ ((0 < k) × (get_or numbers (k - 1) 0 / 2 ≡ pair))
      → k ≤ m → m ≤ e → e ≤ length numbers
      → ((j : ℕ) → k ≤ j → j < m → get_or numbers j 0 ≡ pair * 2) → (m < length numbers → get_or numbers m 0 ≢ pair * 2)
      → ((j : ℕ) → m ≤ j → j < e → get_or numbers j 0 ≡ pair * 2 + 1) → (e < length numbers → get_or numbers e 0 ≢ pair * 2 + 1)
      → (e - m ≢ m - k) ↔ HoldsOf level W1 (Unclosed (pair / 65536) (pair % 65536))
  unclosed_first k pair m e inside here first after from within even not_even odd not_odd =
      let s = pair / 65536 in
      let v = pair % 65536 in
      let hv : v < 65536 = omega arith in
      let is : pair_number s v ≡ pair = omega arith in
      let evens = even_count numbers are.ascending k pair inside here first m e after from within even not_even odd not_odd in
      let odds = odd_count numbers are.ascending k pair inside here first m e after from within even not_even odd not_odd in
      let reach : reaching level s v ≡ m - k = reaching_is s v hv ∙ ap (λ p. count_by (λ n. n == p * 2) numbers) is ∙ evens in
      let leave : leaving level s v ≡ e - m = leaving_is s v hv ∙ ap (λ p. count_by (λ n. n == p * 2 + 1) numbers) is ∙ odds in
      (λ other. (refl, λ same. other (sym leave ∙ same ∙ reach)), λ h same. h.1 (leave ∙ same ∙ sym reach))

-- the sector and the vertexes of a side are there
record IsRunIn (level : Level) (run : SideRun) : Type 0 where
  sector : run.sector < length (sectors_of level)
  from : run.from < length (vertexes_of level)
  to : run.to < length (vertexes_of level)

then_some : {A B : Type 0} (o : Option A) (f : A → Option B) (P : A → Type 0) (Q : B → Type 0) → IfSome o P
    → ((x : A) → P x → IfSome (f x) Q) → IfSome (option_and_then f o) Q
then_some None f P Q some next = tt
then_some (Some x) f P Q some next = next x some

any_some : {A : Type 0} (o : Option A) → IfSome o (λ _. ⊤)
any_some None = tt
any_some (Some x) = tt

number_below : (count : ℕ) (index : ℤ) → IfSome (number_named count index) (λ n. n < count)
number_below count (pos n) = elim (cases_lt n count) [
  | inl below ↦ rw (lt-ltb n count below) below
  | inr past ↦ rw (le-ltb n count past) tt
]
number_below count (negsuc n) = tt

run_within : (level : Level) (side start end : ℤ) → IfSome (run_of level side start end) (IsRunIn level)
run_within level side start end =
    let sectors = length (sectors_of level) in
    let vertexes = length (vertexes_of level) in
    then_some (sidedef_named level side) _ (λ _. ⊤) (IsRunIn level) (any_some (sidedef_named level side)) (λ sidedef _.
    then_some (number_named sectors sidedef.sector) _ (λ s. s < sectors) (IsRunIn level) (number_below sectors sidedef.sector) (λ s hs.
    then_some (number_named vertexes start) _ (λ v. v < vertexes) (IsRunIn level) (number_below vertexes start) (λ v hv.
    then_some (number_named vertexes end) _ (λ v. v < vertexes) (IsRunIn level) (number_below vertexes end) (λ w hw.
    record { sector = hs; from = hv; to = hw }))))

listed : (P : SideRun → Type 0) (o : Option SideRun) → IfSome o P → All P (option_to_list o)
listed P None some = All-nil P
listed P (Some run) some = All-cons P run [] some (All-nil P)

runs_within : (level : Level) (linedefs : List LineDef) → All (IsRunIn level) (flat_map (runs_of_linedef level) linedefs)
runs_within level [] = All-nil (IsRunIn level)
runs_within level (d ∷ linedefs) =
    let front = run_of level d.side0 d.v1 d.v2 in
    let back = run_of level d.side1 d.v2 d.v1 in
    All-append (IsRunIn level) (runs_of_linedef level d) (flat_map (runs_of_linedef level) linedefs)
    (All-append (IsRunIn level) (option_to_list front) (option_to_list back)
    (listed (IsRunIn level) front (run_within level d.side0 d.v1 d.v2)) (listed (IsRunIn level) back (run_within level d.side1 d.v2 d.v1)))
    (runs_within level linedefs)

-- so the numbers of sides have sectors and ends below bounds
sectors_within : (level : Level) (runs : List SideRun) → All IsShortRun runs → All (IsRunIn level) runs
    → All (λ n. sector_in n < min (length (sectors_of level)) 65536) (numbers_of runs)
sectors_within level [] short inside = All-nil (λ n. sector_in n < min (length (sectors_of level)) 65536)
sectors_within level (run ∷ runs) short inside =
    let P : ℕ → Type 0 = λ n. sector_in n < min (length (sectors_of level)) 65536 in
    let own = All-head IsShortRun run runs short in
    let here = All-head (IsRunIn level) run runs inside in
    let rest = sectors_within level runs (All-tail IsShortRun run runs short) (All-tail (IsRunIn level) run runs inside) in
    let to = pair_number run.sector run.to * 2 in
    let from = pair_number run.sector run.from * 2 + 1 in
    All-cons P to (from ∷ numbers_of runs) (omega (arith, own.sector, own.to, here.sector))
    (All-cons P from (numbers_of runs) (omega (arith, own.sector, own.from, here.sector)) rest)

ends_within : (level : Level) (runs : List SideRun) → All IsShortRun runs → All (IsRunIn level) runs
    → All (λ n. end_in n < min (length (vertexes_of level)) 65536 * 2) (numbers_of runs)
ends_within level [] short inside = All-nil (λ n. end_in n < min (length (vertexes_of level)) 65536 * 2)
ends_within level (run ∷ runs) short inside =
    let P : ℕ → Type 0 = λ n. end_in n < min (length (vertexes_of level)) 65536 * 2 in
    let own = All-head IsShortRun run runs short in
    let here = All-head (IsRunIn level) run runs inside in
    let rest = ends_within level runs (All-tail IsShortRun run runs short) (All-tail (IsRunIn level) run runs inside) in
    let to = pair_number run.sector run.to * 2 in
    let from = pair_number run.sector run.from * 2 + 1 in
    All-cons P to (from ∷ numbers_of runs) (omega (arith, own.sector, own.to, here.to))
    (All-cons P from (numbers_of runs) (omega (arith, own.sector, own.from, here.from)) rest)

pub few_sectors : (level : Level) (numbers : List ℕ) → AddsRuns (runs_of level) [] numbers
    → All (λ n. sector_in n < min (length (sectors_of level)) 65536) numbers
few_sectors level numbers adds = rw adds.is (sectors_within level (runs_of level) adds.short (runs_within level (linedefs_of level)))

pub few_ends : (level : Level) (numbers : List ℕ) → AddsRuns (runs_of level) [] numbers
    → All (λ n. end_in n < min (length (vertexes_of level)) 65536 * 2) numbers
few_ends level numbers adds = rw adds.is (ends_within level (runs_of level) adds.short (runs_within level (linedefs_of level)))

-- where the numbers are balanced, all is closed
pub balanced_closed : (level : Level) (numbers : List ℕ) → AddsRuns (runs_of level) [] numbers → AreBalanced numbers
    → (w : Warning) → ¬ HoldsOf level W1 w
balanced_closed level numbers adds balanced (Unclosed s v) h =
    let short = adds.short in
    let hv = unclosed_short level short s v h.1 in
    let even = rw adds.is at (balanced (pair_number s v)) in
    h.1 (sym (leave_counted (runs_of level) s v hv short) ∙ sym even ∙ reach_counted (runs_of level) s v hv short)
balanced_closed level numbers adds balanced (Game w) h = game_only None level W1 w refl h
balanced_closed level numbers adds balanced w h = let other = h.0 in cc

-- numbers of sides that stand one behind the other
numbers_joined : (a b : List SideRun) → numbers_of (a ++ b) ≡ numbers_of a ++ numbers_of b
numbers_joined [] b = refl
numbers_joined (run ∷ a) b = rw (numbers_joined a b) refl

pub adds_none : (xs : List ℕ) → AddsRuns [] xs xs
adds_none xs = record { is = sym (append-nil xs); short = All-nil IsShortRun }

pub adds_one : (run : SideRun) (xs ys : List ℕ) → IsShortRun run → ys ≡ xs ++ numbers_of (run ∷ []) → AddsRuns (run ∷ []) xs ys
adds_one run xs ys short is = record { is = is; short = All-cons IsShortRun run [] short (All-nil IsShortRun) }

pub adds_both : (a b : List SideRun) (x y z : List ℕ) → AddsRuns a x y → AddsRuns b y z → AddsRuns (a ++ b) x z
adds_both a b x y z one two = record {
  is = two.is ∙ ap (λ l. l ++ numbers_of b) one.is ∙ append_assoc x (numbers_of a) (numbers_of b) ∙ ap (λ l. x ++ l) (sym (numbers_joined a b));
  short = All-append IsShortRun a b one.short two.short;
}

-- the sides of the linedefs below a number
abbrev pub runs_below : Level → ℕ → List SideRun
runs_below level i = flat_map (λ linedef. runs_of_linedef level (linedef_under level.reading linedef)) (take i level.linedefs.records)

-- a linedef more
pub runs_more : (level : Level) (i : ℕ) (linedef : LineDef) (old new : List ℕ) → slice_get level.linedefs.records i ≡ Some linedef
    → AddsRuns (runs_below level i) [] old → AddsRuns (runs_of_linedef level (linedef_under level.reading linedef)) old new
    → AddsRuns (runs_below level (i + 1)) [] new
runs_more level i linedef old new at before adds =
    let f : LineDef → List SideRun = λ d. runs_of_linedef level (linedef_under level.reading d) in
    let records = level.linedefs.records in
    let both = adds_both (runs_below level i) (f linedef) [] old new before adds in
    let inside = slice_get_within records i linedef at in
    let next : take (i + 1) records ≡ take i records ++ linedef ∷ [] =
    take_more records i linedef inside ∙ ap (λ d. take i records ++ d ∷ []) (get_or_from_slice_get records i linedef linedef at) in
    let same : flat_map f (take i records) ++ f linedef ≡ flat_map f (take i records ++ linedef ∷ []) = flat_map_more f [] (take i records) linedef in
    rw next (rw same at both)

flat_map_under : (level : Level) (records : List LineDef) → flat_map (λ d. runs_of_linedef level (linedef_under level.reading d)) records
    ≡ flat_map (runs_of_linedef level) (map (linedef_under level.reading) records)
flat_map_under level [] = refl
flat_map_under level (d ∷ records) = ap (λ l. runs_of_linedef level (linedef_under level.reading d) ++ l) (flat_map_under level records)

-- all linedefs
pub runs_all : (level : Level) (i : ℕ) (new : List ℕ) → length level.linedefs.records ≤ i → AddsRuns (runs_below level i) [] new → AddsRuns (runs_of level) [] new
runs_all level i new past below =
    let all : take i level.linedefs.records ≡ level.linedefs.records = take_all i level.linedefs.records past in
    subst (λ runs. AddsRuns runs [] new) (ap (flat_map (λ d. runs_of_linedef level (linedef_under level.reading d))) all ∙ flat_map_under level level.linedefs.records) below

pub law_closed_is_balanced : ClosedIsBalanced
law_closed_is_balanced level none s v = elim (cases_eq (leaving level s v) (reaching level s v)) [
  | inl same ↦ same
  | inr other ↦ absurd (none (Unclosed s v) (refl, other))
]
