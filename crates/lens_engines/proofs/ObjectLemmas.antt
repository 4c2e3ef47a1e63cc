-- How the parts of an object's text follow one another.
use Rattle.std.proofs.Common.{◌≡◌, ℕ, zero, suc, ◌+◌, ◌<◌, ◌≤◌, true, false, List, [], ◌∷◌, ◌++◌, Some, length, drop, refl, sym, ap, arith, subst}
use Rattle.std.specs.Prelude.{nat_lt}
use Rattle.std.specs.List.{join_with_byte, slice_get}
use Rattle.std.proofs.lemmas.Bool.{lt-ltb, le-ltb}
use Rattle.std.proofs.lemmas.List.{append-nil, drop_all}
use Rattle.std.proofs.lemmas.Option.{same_Some}
use Rattle.le_rec.specs.Sink.{SinkState}
use Rattle.level_codes.specs.declared.code.ReportCode.{ReportCode}
use Rattle.line_io.proofs.WriteProgressLemmas.{SoFar, SoFar-none}
use Rattle.lens_engines.specs.Objects.{count_member, count_members}
use Rattle.lens_engines.specs.ReportCounts.{count_of}

-- texts behind separators: the first behind one of its own, the others behind commas
abbrev pub separated : List ℕ → List (List ℕ) → List ℕ
separated first [] = []
separated first (text ∷ texts) = (first ++ text) ++ separated (44 ∷ []) texts

pub joined-separated : (texts : List (List ℕ)) → join_with_byte 44 texts ≡ separated [] texts
joined-separated [] = refl
joined-separated (text ∷ []) = sym (append-nil text)
joined-separated (text ∷ next ∷ texts) = ap (λ t. text ++ (44 ∷ t)) (joined-separated (next ∷ texts))

-- the members of the codes from a place on, where there is one of the first of them
pub members-some : (counts : List ℕ) (codes : List ReportCode) (i : ℕ) (code : ReportCode) → slice_get codes i ≡ Some code → 0 < count_of counts code
    → count_members counts (drop i codes) ≡ count_member code (count_of counts code) ∷ count_members counts (drop (i + 1) codes)
members-some counts [] i code at some = absurd (let f : ⊥ = cc in f)
members-some counts (x ∷ codes) zero code at some =
    let same : x ≡ code = same_Some x code at in
    let passes : nat_lt 0 (count_of counts code) ≡ true = lt-ltb 0 (count_of counts code) some in
    rw (same, passes) refl
members-some counts (x ∷ codes) (suc i) code at some = let next : suc i + 1 ≡ suc (i + 1) = omega arith in rw next (members-some counts codes i code at some)

-- and where there is none
pub members-none : (counts : List ℕ) (codes : List ReportCode) (i : ℕ) (code : ReportCode) → slice_get codes i ≡ Some code → count_of counts code ≤ 0
    → count_members counts (drop i codes) ≡ count_members counts (drop (i + 1) codes)
members-none counts [] i code at none = absurd (let f : ⊥ = cc in f)
members-none counts (x ∷ codes) zero code at none =
    let same : x ≡ code = same_Some x code at in
    let fails : nat_lt 0 (count_of counts code) ≡ false = le-ltb 0 (count_of counts code) none in
    rw (same, fails) refl
members-none counts (x ∷ codes) (suc i) code at none = let next : suc i + 1 ≡ suc (i + 1) = omega arith in rw next (members-none counts codes i code at none)

-- there are no codes past the last
pub members-past : (counts : List ℕ) (codes : List ReportCode) (i : ℕ) → length codes ≤ i → count_members counts (drop i codes) ≡ []
members-past counts codes i past = ap (count_members counts) (drop_all i codes past)

-- nothing of joined texts was written
pub SoFar-joined : (texts : List (List ℕ)) (before : SinkState) → SoFar (join_with_byte 44 texts) before before (separated [] texts)
SoFar-joined texts before = subst (λ (rest : List ℕ). SoFar (join_with_byte 44 texts) before before rest) (joined-separated texts) (SoFar-none _ before)
