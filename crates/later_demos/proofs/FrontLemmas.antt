-- Parts of bytes, and what they say whatever follows them.
use Rattle.std.proofs.Common.{◌≡◌, ℕ, ◌+◌, ◌≤◌, ◌<◌, Bool, true, false, cond, Option, Some, None, List, ◌++◌, length, take, drop, slice_index, length-drop, refl, sym, ap, ◌∙◌, arith}
use Rattle.std.proofs.lemmas.Bool.{cond-false, cond-true, cases_Bool}
use Rattle.std.proofs.lemmas.List.{drop-append-le, get_or_append_left, take-append-le}
use Rattle.std.proofs.Common.{inl, inr}
use Rattle.later_demos.specs.Numbers.{big32_at, little32_at}

-- a byte of the front
pub left_index : (front more : List ℕ) (i : ℕ) → i < length front
    → slice_index (front ++ more) i ≡ slice_index front i
left_index front more i h = get_or_append_left front more 0 i h

-- a number of the front
pub big32_left : (front more : List ℕ) (at : ℕ) → at + 4 ≤ length front
    → big32_at (front ++ more) at ≡ big32_at front at
big32_left front more at h =
    let a : slice_index (front ++ more) at ≡ slice_index front at = left_index front more at (omega arith) in
    let b : slice_index (front ++ more) (at + 1) ≡ slice_index front (at + 1) = left_index front more (at + 1) (omega arith) in
    let c : slice_index (front ++ more) (at + 2) ≡ slice_index front (at + 2) = left_index front more (at + 2) (omega arith) in
    let d : slice_index (front ++ more) (at + 3) ≡ slice_index front (at + 3) = left_index front more (at + 3) (omega arith) in
    cc

pub little32_left : (front more : List ℕ) (at : ℕ) → at + 4 ≤ length front
    → little32_at (front ++ more) at ≡ little32_at front at
little32_left front more at h =
    let a : slice_index (front ++ more) at ≡ slice_index front at = left_index front more at (omega arith) in
    let b : slice_index (front ++ more) (at + 1) ≡ slice_index front (at + 1) = left_index front more (at + 1) (omega arith) in
    let c : slice_index (front ++ more) (at + 2) ≡ slice_index front (at + 2) = left_index front more (at + 2) (omega arith) in
    let d : slice_index (front ++ more) (at + 3) ≡ slice_index front (at + 3) = left_index front more (at + 3) (omega arith) in
    cc

-- a part of the front
pub part_left : (front more : List ℕ) (at k : ℕ) → at + k ≤ length front
    → take k (drop at (front ++ more)) ≡ take k (drop at front)
part_left front more at k h =
    ap (take k) (drop-append-le at front more (omega arith))
    ∙ take-append-le k (drop at front) more (omega (arith, length-drop at front))

-- choices that are alike
pub chosen_same : {A : Type 0} (b : Bool) (x y z w : A) → (b ≡ true → x ≡ y) → (b ≡ false → z ≡ w)
    → cond b x z ≡ cond b y w
chosen_same b x y z w same alike = elim (cases_Bool b) [
  | inl there ↦ cond-true b x z there ∙ same there ∙ sym (cond-true b y w there)
  | inr none ↦ cond-false b x z none ∙ alike none ∙ sym (cond-false b y w none)
]

-- a row of refusals that doesn't hold
pub passed : {A : Type 0} (b : Bool) (x : A) (y : Option A) → cond b (Some x) y ≡ None
    → (b ≡ false) × (y ≡ None)
passed true x y h = absurd (let f : ⊥ = cc in f)
passed false x y h = (refl, h)
