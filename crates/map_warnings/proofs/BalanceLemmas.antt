-- Links from the numbers of sides to the next ones of their sectors, and counts of the numbers' ends.
use Rattle.std.proofs.Common.{◌≡◌, ◌≢◌, ℕ, zero, suc, ◌+◌, ◌*◌, ◌/◌, ◌<◌, ◌≤◌, ◌⊎◌, inl, inr, List, [], ◌∷◌, length, get_or, set, drop, take, refl, sym, ap, subst, ◌∙◌, add-one, arith}
use Rattle.std.specs.Prelude.{◌==◌, ◌%◌, ◌^◌, All, cond, count_by, sum_by}
use Rattle.std.proofs.Math.Nat.{mod-add-mod}
use Rattle.std.proofs.lemmas.Bool.{cases_eq, cases_lt, eq-eqb, ne_eqb}
use Rattle.std.proofs.lemmas.List.{get_or-set_same, get_or-set_other, length-set}
use Rattle.std.proofs.lemmas.List.Elements.{All-append, All-filter, All-head, All-nil, All-tail}
use Rattle.std.proofs.lemmas.List.Sums.{sum_by-append, sum_by-cons, sum_by_more}
use Rattle.map_warnings.specs.KeyLinks.{IsLink, of_key}
use Rattle.map_warnings.specs.Balance.{AreBalanced, CountEnds, HasBalance, end_in, of_sectors, sector_in, square_in, squares_in, with_end}
use Rattle.map_warnings.proofs.LinkLemmas.{key_here}

ends_cons : (e n : ℕ) (numbers : List ℕ) → with_end e (n ∷ numbers) ≡ cond (end_in n == e) 1 0 + with_end e numbers
ends_cons e n numbers = sum_by-cons (λ m. cond (end_in m == e) 1 0) n numbers

another_end : (e n : ℕ) (numbers : List ℕ) → end_in n ≢ e → with_end e (n ∷ numbers) ≡ with_end e numbers
another_end e n numbers other =
    let value : cond {A = ℕ} (end_in n == e) 1 0 ≡ 0 = rw (ne_eqb (end_in n) e other) refl in
    omega (arith, ends_cons e n numbers, value)

own_end : (e n : ℕ) (numbers : List ℕ) → end_in n ≡ e → with_end e (n ∷ numbers) ≡ with_end e numbers + 1
own_end e n numbers own =
    let value : cond {A = ℕ} (end_in n == e) 1 0 ≡ 1 = rw (eq-eqb (end_in n) e own) refl in
    omega (arith, ends_cons e n numbers, value)

ends_joined : (e s : ℕ) (numbers : List ℕ) → with_end e (of_sectors (s + 1) numbers) ≡ with_end e (of_sectors s numbers) + with_end e (of_key sector_in s numbers)
ends_joined e s numbers = rw (add-one s) (sum_by-append (λ n. cond (end_in n == e) 1 0) (of_sectors s numbers) (of_key sector_in s numbers))

-- a number's end is one of the counts
pub end_within : (numbers counts before : List ℕ) (at end : ℕ) → All (λ n. end_in n < length before) numbers → length counts ≡ length before
    → at < length numbers → end ≡ end_in (get_or numbers at 0) → end < length counts
end_within numbers counts before at end ends long inside is = rw (is, long) (ends at 0 inside)

-- what is counted and what is left of a sector are what there is up to it
pub counts_begin : (numbers counts : List ℕ) (s at : ℕ) → IsLink sector_in numbers s 0 at → CountEnds (of_sectors s numbers) counts
    → (e : ℕ) → e < length counts → get_or counts e 0 + with_end e (of_key sector_in s (drop at numbers)) ≡ with_end e (of_sectors (s + 1) numbers)
counts_begin numbers counts s at link before e inside =
    let joined = ends_joined e s numbers in
    let own : with_end e (of_key sector_in s (drop at numbers)) ≡ with_end e (of_key sector_in s numbers) = ap (with_end e) link.same in
    omega (arith, joined, own, before e inside)

pub counts_more : (numbers counts : List ℕ) (s at next end count : ℕ) (all : ℕ → ℕ) → at < length numbers → sector_in (get_or numbers at 0) ≡ s
    → IsLink sector_in numbers (sector_in (get_or numbers at 0)) (at + 1) next
    → end ≡ end_in (get_or numbers at 0) → end < length counts → count ≡ get_or counts end 0 + 1
    → ((e : ℕ) → e < length counts → get_or counts e 0 + with_end e (of_key sector_in s (drop at numbers)) ≡ all e)
    → (e : ℕ) → e < length (set counts end count) → get_or (set counts end count) e 0 + with_end e (of_key sector_in s (drop next numbers)) ≡ all e
counts_more numbers counts s at next end count all inside is link own fits more before e within =
    let here = before e (rw (length-set counts end count) at within) in
    let n = get_or numbers at 0 in
    let rest = of_key sector_in s (drop (at + 1) numbers) in
    let one : with_end e (of_key sector_in s (drop at numbers)) ≡ with_end e (n ∷ rest) = ap (with_end e) (key_here sector_in numbers s at inside is) in
    let two : with_end e (of_key sector_in s (drop next numbers)) ≡ with_end e rest = ap (with_end e) (rw is at link.same) in
    elim (cases_eq e end) [
      | inl same ↦
          let added = own_end e n rest (sym own ∙ sym same) in
          let value : get_or (set counts end count) e 0 ≡ count = rw same (get_or-set_same counts end count 0 fits) in
          let old : get_or counts end 0 ≡ get_or counts e 0 = ap (λ m. get_or counts m 0) (sym same) in
          omega (arith, here, one, two, added, value, old, more)
      | inr other ↦
          let left = another_end e n rest (λ m. other (sym m ∙ sym own)) in
          let value : get_or (set counts end count) e 0 ≡ get_or counts e 0 = get_or-set_other counts end e count 0 other in
          omega (arith, here, one, two, left, value)
    ]

-- a vertex has as many of some numbers that leave it as reach it, or it is that of one of them
balance_or : (counts numbers : List ℕ) (v : ℕ) → All (HasBalance counts) numbers
    → (with_end (v * 2) numbers ≡ with_end (v * 2 + 1) numbers) ⊎ (get_or counts (v * 2) 0 ≡ get_or counts (v * 2 + 1) 0)
balance_or counts [] v are = inl refl
balance_or counts (n ∷ numbers) v are = elim (cases_eq (end_in n / 2) v) [
  | inl same ↦
      let here = All-head (HasBalance counts) n numbers are in
      inr (subst (λ w. get_or counts (w * 2) 0 ≡ get_or counts (w * 2 + 1) 0) same here)
  | inr other ↦ elim (balance_or counts numbers v (All-tail (HasBalance counts) n numbers are)) [
    | inl even ↦
        inl (another_end (v * 2) n numbers (λ e. other (omega (arith, e))) ∙ even
        ∙ sym (another_end (v * 2 + 1) n numbers (λ e. other (omega (arith, e)))))
    | inr told ↦ inr told
  ]
]

-- no number has an end past a bound
ends_past : (e bound : ℕ) (numbers : List ℕ) → All (λ n. end_in n < bound) numbers → bound ≤ e → with_end e numbers ≡ 0
ends_past e bound [] few past = refl
ends_past e bound (n ∷ numbers) few past =
    let here = All-head (λ m. end_in m < bound) n numbers few in
    another_end e n numbers (λ is. omega (arith, is, here, past)) ∙ ends_past e bound numbers (All-tail (λ m. end_in m < bound) n numbers few) past

-- what holds of all numbers holds of those of the sectors below one
sectors_all : (s : ℕ) (P : ℕ → Type 0) (numbers : List ℕ) → All P numbers → All P (of_sectors s numbers)
sectors_all zero P numbers all = All-nil P
sectors_all (suc s) P numbers all =
    All-append P (of_sectors s numbers) (of_key sector_in s numbers) (sectors_all s P numbers all) (All-filter (λ n. sector_in n == s) P numbers all)

-- as many leave each vertex as reach it below the first sector, and below the next one where its numbers are balanced
pub balance_none : (numbers : List ℕ) (s v : ℕ) → s ≤ 0 → with_end (v * 2) (of_sectors s numbers) ≡ with_end (v * 2 + 1) (of_sectors s numbers)
balance_none numbers s v below = let none : s ≡ 0 = omega (arith, below) in rw none refl

pub balance_more : (numbers counts : List ℕ) (s v : ℕ) → length counts % 2 ≡ 0 → All (λ n. end_in n < length counts) numbers
    → CountEnds (of_sectors (s + 1) numbers) counts → All (HasBalance counts) (of_key sector_in s numbers)
    → with_end (v * 2) (of_sectors s numbers) ≡ with_end (v * 2 + 1) (of_sectors s numbers)
    → with_end (v * 2) (of_sectors (s + 1) numbers) ≡ with_end (v * 2 + 1) (of_sectors (s + 1) numbers)
balance_more numbers counts s v pairs few are own before = elim (balance_or counts (of_key sector_in s numbers) v own) [
  | inl even ↦ omega (arith, ends_joined (v * 2) s numbers, ends_joined (v * 2 + 1) s numbers, before, even)
  | inr told ↦ elim (cases_lt (v * 2) (length counts)) [
    | inl inside ↦
        let one = are (v * 2) (omega (arith, inside)) in
        let two = are (v * 2 + 1) (omega (arith, inside, pairs)) in
        omega (arith, one, two, told)
    | inr past ↦
        let all = sectors_all (s + 1) (λ n. end_in n < length counts) numbers few in
        let one = ends_past (v * 2) (length counts) (of_sectors (s + 1) numbers) all (omega (arith, past)) in
        let two = ends_past (v * 2 + 1) (length counts) (of_sectors (s + 1) numbers) all (omega (arith, past)) in
        omega (arith, one, two)
  ]
]

-- how often a number stands among others
abbrev times : ℕ → List ℕ → ℕ
times n numbers = count_by (λ m. m == n) numbers

times_cons : (n m : ℕ) (numbers : List ℕ) → times n (m ∷ numbers) ≡ cond (m == n) 1 0 + times n numbers
times_cons n m numbers = sum_by-cons (λ l. cond (l == n) 1 0) m numbers

times_another : (n m : ℕ) (numbers : List ℕ) → m ≢ n → times n (m ∷ numbers) ≡ times n numbers
times_another n m numbers other =
    let value : cond {A = ℕ} (m == n) 1 0 ≡ 0 = rw (ne_eqb m n other) refl in
    omega (arith, times_cons n m numbers, value)

-- as often as its end among those of its sector
times_in_sector : (n : ℕ) (numbers : List ℕ) → times n numbers ≡ with_end (end_in n) (of_key sector_in (sector_in n) numbers)
times_in_sector n [] = refl
times_in_sector n (m ∷ numbers) =
    let rest = times_in_sector n numbers in
    elim (cases_eq (sector_in m) (sector_in n)) [
      | inl same ↦ rw (eq-eqb (sector_in m) (sector_in n) same) (elim (cases_eq (end_in m) (end_in n)) [
        | inl own ↦
            let is : m ≡ n = omega (arith, same, own) in
            let value : cond {A = ℕ} (m == n) 1 0 ≡ 1 = rw (eq-eqb m n is) refl in
            let one = times_cons n m numbers in
            let two = own_end (end_in n) m (of_key sector_in (sector_in n) numbers) own in
            omega (arith, one, two, value, rest)
        | inr other ↦
            times_another n m numbers (λ e. other (ap end_in e)) ∙ rest ∙ sym (another_end (end_in n) m (of_key sector_in (sector_in n) numbers) other)
      ])
      | inr other ↦
          rw (ne_eqb (sector_in m) (sector_in n) other) (times_another n m numbers (λ e. other (ap sector_in e)) ∙ rest)
    ]

-- a number of a sector past all stands nowhere
times_nowhere : (sectors n : ℕ) (numbers : List ℕ) → All (λ m. sector_in m < sectors) numbers → sectors ≤ sector_in n → times n numbers ≡ 0
times_nowhere sectors n [] few past = refl
times_nowhere sectors n (m ∷ numbers) few past =
    let here = All-head (λ l. sector_in l < sectors) m numbers few in
    times_another n m numbers (λ e. omega (arith, ap sector_in e, here, past)) ∙ times_nowhere sectors n numbers (All-tail (λ l. sector_in l < sectors) m numbers few) past

-- numbers are balanced where those below each sector are
pub balance_all : (numbers : List ℕ) (sectors : ℕ) → All (λ n. sector_in n < sectors) numbers
    → ((s v : ℕ) → s ≤ sectors → with_end (v * 2) (of_sectors s numbers) ≡ with_end (v * 2 + 1) (of_sectors s numbers)) → AreBalanced numbers
balance_all numbers sectors few even pair = elim (cases_lt (pair / 65536) sectors) [
  | inl below ↦
      let s = pair / 65536 in
      let v = pair % 65536 in
      let one = even s v (omega (arith, below)) in
      let two = even (s + 1) v (omega (arith, below)) in
      let own : with_end (v * 2) (of_key sector_in s numbers) ≡ with_end (v * 2 + 1) (of_key sector_in s numbers) =
      omega (arith, ends_joined (v * 2) s numbers, ends_joined (v * 2 + 1) s numbers, one, two) in
      let sector_even : pair * 2 / 131072 ≡ s = omega arith in
      let sector_odd : (pair * 2 + 1) / 131072 ≡ s = omega arith in
      let end_even : pair * 2 % 131072 ≡ v * 2 = omega arith in
      let end_odd : (pair * 2 + 1) % 131072 ≡ v * 2 + 1 = omega arith in
      let evens = rw (sector_even, end_even) at (times_in_sector (pair * 2) numbers) in
      let odds = rw (sector_odd, end_odd) at (times_in_sector (pair * 2 + 1) numbers) in
      evens ∙ own ∙ sym odds
  | inr past ↦
      times_nowhere sectors (pair * 2) numbers few (omega (arith, past)) ∙ sym (times_nowhere sectors (pair * 2 + 1) numbers few (omega (arith, past)))
]

-- the squares of one number more
pub squares_more : (end k : ℕ) (numbers : List ℕ) → k < length numbers
    → (squares_in end (take k numbers) + square_in end (get_or numbers k 0)) % 2 ^ 64 ≡ squares_in end (take (k + 1) numbers)
squares_more end k numbers inside =
    mod-add-mod (sum_by (square_in end) (take k numbers)) (2 ^ 64) (square_in end (get_or numbers k 0))
    ∙ ap (λ sum. sum % 2 ^ 64) (sym (sum_by_more (square_in end) numbers k 0 inside))
