-- Counts of cells that show the same.
use Rattle.std.proofs.Common.{◌≡◌, ◌∙◌, ℕ, zero, suc, ◌+◌, ◌-◌, ◌<◌, ◌≤◌, Bool, true, false, List, length, take, count_by, Some, refl, sym, subst, ap, arith}
use Rattle.std.proofs.lemmas.List.Sums.{count_by_more_no, count_by_more_yes}
use Rattle.std.proofs.lemmas.Option.{get_or_from_slice_get}
use Rattle.std.specs.List.{slice_get}
use Rattle.std.specs.Prelude.{if◌then◌else◌}

counted : {X : Type 0} (p : X → Bool) (xs : List X) (from n : ℕ) (x : X) (b : Bool) → p x ≡ b → from + n ≤ length xs
    → ((k : ℕ) → from ≤ k → k < from + n → slice_get xs k ≡ Some x)
    → count_by p (take (from + n) xs) ≡ count_by p (take from xs) + (if b then n else 0)
counted p xs from zero x true e within same =
    let none : from ≡ from + 0 = omega arith in
    subst (λ m. count_by p (take m xs) ≡ count_by p (take from xs) + 0) none (omega arith)
counted p xs from zero x false e within same =
    let none : from ≡ from + 0 = omega arith in
    subst (λ m. count_by p (take m xs) ≡ count_by p (take from xs) + 0) none (omega arith)
counted p xs from (suc n) x true e within same =
    let next : from + n + 1 ≡ from + suc n = omega arith in
    let old = counted p xs from n x true e (omega (arith, within)) (λ k after below. same k after (omega (arith, below))) in
    let here = get_or_from_slice_get xs (from + n) x x (same (from + n) (omega arith) (omega arith)) in
    let more = count_by_more_yes p xs (from + n) x (omega (arith, within)) (ap p here ∙ e) in
    subst (λ m. count_by p (take m xs) ≡ count_by p (take from xs) + suc n) next (omega (arith, more, old))
counted p xs from (suc n) x false e within same =
    let next : from + n + 1 ≡ from + suc n = omega arith in
    let old = counted p xs from n x false e (omega (arith, within)) (λ k after below. same k after (omega (arith, below))) in
    let here = get_or_from_slice_get xs (from + n) x x (same (from + n) (omega arith) (omega arith)) in
    let more = count_by_more_no p xs (from + n) x (omega (arith, within)) (ap p here ∙ e) in
    subst (λ m. count_by p (take m xs) ≡ count_by p (take from xs) + 0) next (omega (arith, more, old))

-- so many more that are the same
counted-same : {X : Type 0} (p : X → Bool) (xs : List X) (from end n : ℕ) (x : X) → end ≡ from + n → end ≤ length xs
    → ((k : ℕ) → from ≤ k → k < end → slice_get xs k ≡ Some x)
    → count_by p (take end xs) ≡ count_by p (take from xs) + (if p x then n else 0)
counted-same p xs from end n x to within same =
    subst (λ m. count_by p (take m xs) ≡ count_by p (take from xs) + (if p x then n else 0)) (sym to)
    (counted p xs from n x (p x) refl (omega (arith, to, within)) (λ k after below. same k after (omega (arith, below, to))))

-- where the first places are counted, so are these, too
pub counted-more : {X : Type 0} (p : X → Bool) (xs : List X) (from end : ℕ) (old new : ℕ) (x : X) → from < end → end ≤ length xs
    → slice_get xs from ≡ Some x → ((k : ℕ) → from ≤ k → k < end → slice_get xs k ≡ slice_get xs from)
    → old ≡ count_by p (take from xs) → new ≡ old + (if p x then end - from else 0) → new ≡ count_by p (take end xs)
counted-more p xs from end old new x after within here same is grows =
    grows ∙ ap (λ k. k + (if p x then end - from else 0)) is
    ∙ sym (counted-same p xs from end (end - from) x (omega (arith, after)) within (λ k later below. same k later below ∙ here))
