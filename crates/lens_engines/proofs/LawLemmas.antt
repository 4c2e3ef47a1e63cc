-- The laws of this crate.
use Rattle.std.proofs.Common.{◌≡◌, ◌↔◌, ℕ, ◌<◌, ◌≤◌, List, [], ◌∷◌, length, take, get_or, get_or-take, length-take, subst, arith}
use Rattle.std.specs.Prelude.{Contains, IsTrue, slice_index, sum}
use Rattle.std.proofs.lemmas.Bool.{ltb-true, lt-ltb}
use Rattle.std.proofs.lemmas.List.{get_or_default}
use Rattle.std.proofs.lemmas.List.Elements.{Contains-get_or}
use Rattle.std.proofs.lemmas.List.Sums.{get_or-le-sum_by, sum_by-le}
use Rattle.map_audit.proofs.LawLemmas.{law_sound_is_no_fault}
use Rattle.map_audit.specs.Findings.{AuditHolds}
use Rattle.map_level.proofs.FindingLemmas.{rank_at}
use Rattle.map_level.specs.Findings.{is_fault, rank}
use Rattle.map_level.specs.declared.finding.Code.TheVariants.{F1}
use Rattle.lens_engines.specs.Counts.{IsCount, finding_order}
use Rattle.lens_engines.specs.Laws.{FaultlessIsSound}

-- a count of nothing
none_counted : (holds : ℕ → Type 0) (count : ℕ) → IsCount holds count → count ≡ 0 → (i : ℕ) → ¬ holds i
none_counted holds count is none i here = let there = (is.exact i).1 here in omega (arith, there.1, is.counted, none)

-- and of what holds nowhere
pub nothing_holds : (holds : ℕ → Type 0) (count : ℕ) → IsCount holds count → ((i : ℕ) → ¬ holds i) → count ≡ 0
nothing_holds holds count is none = go is.indexes is.exact is.counted
  where
    go : (indexes : List ℕ) → ((i : ℕ) → Contains indexes i ↔ holds i) → count ≡ length indexes → count ≡ 0
    go [] exact counted = counted
    go (i ∷ indexes) exact counted = absurd (none i ((exact i).0 (Contains-get_or (i ∷ indexes) 0 i (omega arith))))

-- numbers whose sum is 0
each_zero : (xs : List ℕ) (n k : ℕ) → n ≤ length xs → sum (take n xs) ≡ 0 → k < n → get_or xs k 0 ≡ 0
each_zero xs n k within none below =
    let inside : k < length (take n xs) = simp length-take (omega arith) in
    let least = get_or-le-sum_by (λ x. x) (take n xs) k 0 inside in
    let same : get_or (take n xs) k 0 ≡ get_or xs k 0 = get_or-take n xs k 0 below in
    omega (arith, least, same, none)

zero_sum : (xs : List ℕ) (n : ℕ) → ((k : ℕ) → k < n → get_or xs k 0 ≡ 0) → sum (take n xs) ≡ 0
zero_sum xs n each =
    let below =
    sum_by-le (λ x. x) 0 (take n xs) (λ k d within.
    let first : k < n = omega (arith, within, length-take n xs) in
    let same = get_or_default (take n xs) k d 0 within in
    omega (arith, same, get_or-take n xs k 0 first, each k first)) in
    omega (arith, below)

pub law_faultless_is_sound : FaultlessIsSound
law_faultless_is_sound level counts are = (
  (λ none. (law_sound_is_no_fault level).1 (λ code i fault.
      none_counted (AuditHolds level code) _ (are.each code)
      (each_zero counts 18 (rank code) (omega (arith, are.all)) none (ltb-true (rank code) 18 fault)) i)),
  (λ sound. zero_sum counts 18 (λ k below.
      let code = get_or finding_order k F1 in
      let at : rank code ≡ k = rank_at k F1 (omega arith) in
      let fault : IsTrue (is_fault code) = lt-ltb (rank code) 18 (omega (arith, at, below)) in
      subst (λ (p : ℕ). slice_index counts p ≡ 0) at
      (nothing_holds (AuditHolds level code) _ (are.each code) (λ i. (law_sound_is_no_fault level).0 sound code i fault)))),
)
