-- Numbers that are apart, one more at a time.
use Rattle.std.proofs.Common.{◌≡◌, ◌≢◌, ℕ, ◌+◌, ◌<◌, ◌∙◌, inl, inr, List, [], ◌∷◌, get_or, length, drop, replicate, ap, sym, arith}
use Rattle.std.specs.Prelude.{All}
use Rattle.std.proofs.lemmas.Bool.{cases_eq, eq-eqb, ne_eqb}
use Rattle.std.proofs.lemmas.List.{drop_all, drop_more, get_or-replicate}
use Rattle.std.proofs.lemmas.List.Elements.{All-cons, All-head, All-nil, All-tail}
use Rattle.std.proofs.lemmas.List.Kept.{AllPairs-cons}
use Rattle.map_warnings.specs.EndsKey.{AreApart}
use Rattle.map_warnings.specs.KeyLinks.{of_key}

-- a number that is none of those of its key is none of the others
apart_of_all : (key : ℕ → ℕ) (n k : ℕ) (numbers : List ℕ) → key n ≡ k → All (λ m. n ≢ m) (of_key key k numbers) → All (λ m. n ≢ m) numbers
apart_of_all key n k [] is apart = All-nil (λ m. n ≢ m)
apart_of_all key n k (m ∷ numbers) is apart = elim (cases_eq (key m) k) [
  | inl same ↦
      let own = rw (eq-eqb (key m) k same) at apart in
      All-cons (λ l. n ≢ l) m numbers (All-head (λ l. n ≢ l) m (of_key key k numbers) own)
      (apart_of_all key n k numbers is (All-tail (λ l. n ≢ l) m (of_key key k numbers) own))
  | inr other ↦
      let own = rw (ne_eqb (key m) k other) at apart in
      All-cons (λ l. n ≢ l) m numbers (λ e. other (ap key (sym e) ∙ is)) (apart_of_all key n k numbers is own)
]

pub apart_more : (key : ℕ → ℕ) (k i : ℕ) (numbers : List ℕ) → i < length numbers → key (get_or numbers i 0) ≡ k
    → All (λ m. get_or numbers i 0 ≢ m) (of_key key k (drop (i + 1) numbers)) → AreApart (drop (i + 1) numbers) → AreApart (drop i numbers)
apart_more key k i numbers inside is new apart =
    let n = get_or numbers i 0 in
    let rest = drop (i + 1) numbers in
    rw (drop_more numbers i 0 inside) (AllPairs-cons (λ a b. a ≢ b) n rest (apart_of_all key n k rest is new) apart)

pub apart_none : (numbers : List ℕ) → AreApart (drop (length numbers) numbers)
apart_none numbers = rw (drop_all (length numbers) numbers (omega arith)) (λ i j d less below. absurd (omega (arith, below)))

-- a list of the same number
pub all_same : (count n : ℕ) (numbers : List ℕ) → numbers ≡ replicate count n → (k : ℕ) → k < count → get_or numbers k 0 ≡ n
all_same count n numbers is k below = ap (λ l. get_or l k 0) is ∙ get_or-replicate count k n 0 below
