-- Words under the wide reading, where no link fault holds under the signed one.
use Rattle.std.proofs.Common.{◌≡◌, ◌≢◌, ℕ, suc, zero, ◌<◌, inl, inr, ℤ, pos, negsuc, ◌<ℤ◌, ◌+ℤ◌, Bool, true, false, List, [], ◌∷◌, map, Some, None, refl, sym, ap, ◌∙◌, subst, arith}
use Rattle.std.specs.Prelude.{IsSomeAnd, FitsSigned, if◌then◌else◌}
use Rattle.std.specs.Int.{w16}
use Rattle.std.specs.Ordering.{int_eq}
use Rattle.std.specs.List.{slice_get}
use Rattle.std.proofs.lemmas.Bool.{cases_lt}
use Rattle.std.proofs.lemmas.Int.{ints}
use Rattle.le_rec.specs.declared.records.LineDef.{LineDef}
use Rattle.map_level.specs.Reading.{number_of, linedef_under}
use Rattle.map_level.specs.declared.reading.Reading.TheVariants.{Signed, Wide}
use Rattle.map_level.specs.Links.{Names, side_at}
use Rattle.map_level.specs.LinkFaults.{GoesPast}

-- an index that is not negative is the same under both readings
pub wide_same : (k : ℕ) → number_of Wide (pos k) ≡ pos k
wide_same k = grind (arith, ints)

-- what doesn't name none doesn't so under the wide reading
pub wide_names : (n : ℕ) (z : ℤ) → ¬ (¬ Names n z) → ¬ (¬ Names n (number_of Wide z))
wide_names n (pos k) h = subst (λ z. ¬ (¬ Names n z)) (sym (wide_same k)) h
wide_names n (negsuc k) h = absurd (h (λ none. none))

-- what doesn't name none is a number below theirs
pub number_named : (n : ℕ) (z : ℤ) → ¬ (¬ Names n z) → (k : ℕ) × (z ≡ pos k) × (k < n)
number_named n (pos k) h = elim (cases_lt k n) [
  | inl below ↦ (k, refl, below)
  | inr past ↦ absurd (h (λ below. omega (arith, past, below)))
]
number_named n (negsuc k) h = absurd (h (λ none. none))

-- a side that is -1 or names one is 65535 or names it
pub wide_side_names : (n : ℕ) (z : ℤ) → ¬ ((z ≢ negsuc 0) × (¬ Names n z))
    → ¬ ((number_of Wide z ≢ pos 65535) × (¬ Names n (number_of Wide z)))
wide_side_names n (pos k) h =
    λ some. h (
      (λ is. let e : pos k ≢ negsuc 0 = λ e. cc in e is),
      (λ named. some.1 (subst (Names n) (sym (wide_same k)) named)),
    )
wide_side_names n (negsuc zero) h = λ some. some.0 refl
wide_side_names n (negsuc (suc k)) h =
    absurd (h ((λ is. let e : negsuc (suc k) ≢ negsuc 0 = λ e. cc in e is), (λ none. none)))

-- a word that says no side under the wide reading is -1
pub wide_no_side : (z : ℤ) → FitsSigned w16 z → number_of Wide z ≡ pos 65535 → z ≡ negsuc 0
wide_no_side (pos k) fits is =
    let e : pos k ≡ pos 65535 = sym (wide_same k) ∙ is in
    absurd (omega (arith, ints, fits, e))
wide_no_side (negsuc k) fits is =
    let raised : (negsuc k +ℤ pos 65536) ≡ pos 65535 = is in
    let none : k ≡ 0 = omega (arith, ints, raised) in
    ap negsuc none

-- the same of a linedef's side at a side number
pub wide_side_at : (linedef : LineDef) (side : ℤ) → FitsSigned w16 linedef.side0
    → FitsSigned w16 linedef.side1
    → side_at (linedef_under Wide linedef) side ≡ Some (pos 65535)
    → side_at (linedef_under Signed linedef) side ≡ Some (negsuc 0)
wide_side_at linedef side fits0 fits1 =
    elim (int_eq side (pos 0))
    as (λ (first : Bool). (if first then Some (number_of Wide linedef.side0) else
    (if int_eq side (pos 1) then Some (number_of Wide linedef.side1) else None)) ≡ Some (pos 65535)
    → (if first then Some linedef.side0 else
    (if int_eq side (pos 1) then Some linedef.side1 else None))
    ≡ Some (negsuc 0)) [
      | true ↦
          λ is. let e : number_of Wide linedef.side0 ≡ pos 65535 = cc in
          ap Some (wide_no_side linedef.side0 fits0 e)
      | false ↦
          elim (int_eq side (pos 1))
          as (λ (second : Bool). (if second then Some (number_of Wide linedef.side1) else None)
          ≡ Some (pos 65535) → (if second then Some linedef.side1 else None)
          ≡ Some (negsuc 0)) [
            | true ↦
                λ is. let e : number_of Wide linedef.side1 ≡ pos 65535 = cc in
                ap Some (wide_no_side linedef.side1 fits1 e)
            | false ↦ λ is. cc
          ]
    ]

-- a range of segs that are there
pub wide_range : (segs : ℕ) (count first : ℤ) → ¬ GoesPast segs count first
    → ¬ GoesPast segs (number_of Wide count) (number_of Wide first)
wide_range segs (pos c) (pos k) h = λ past. h (elim past [
  | inl below ↦ inl (subst (λ z. z <ℤ pos 0) (wide_same c) below)
  | inr other ↦ elim other [
    | inl none ↦ inr (inl (subst (λ z. ¬ Names segs z) (wide_same k) none))
    | inr beyond ↦
        inr (inr (subst (λ z. pos segs <ℤ (z +ℤ pos c)) (wide_same k)
        (subst (λ z. pos segs <ℤ (number_of Wide (pos k) +ℤ z)) (wide_same c) beyond)))
  ]
])
wide_range segs (pos c) (negsuc k) h = absurd (h (inr (inl (λ none. none))))
wide_range segs (negsuc c) first h = absurd (h (inl (omega (arith, ints))))

-- facts that hold of none of the records under one reading, and so under another
pub none_under : {X Y : Type 0} (f g : X → Y) (P Q : Y → Type 0) (xs : List X)
    → ((k : ℕ) (x : X) → slice_get xs k ≡ Some x → ¬ P (f x) → ¬ Q (g x))
    → (i : ℕ) → ¬ IsSomeAnd (slice_get (map f xs) i) P → ¬ IsSomeAnd (slice_get (map g xs) i) Q
none_under f g P Q [] keeps i none = λ h. h
none_under f g P Q (x ∷ xs) keeps zero none = keeps 0 x refl none
none_under f g P Q (x ∷ xs) keeps (suc i) none =
    none_under f g P Q xs (λ k y is. keeps (suc k) y is) i none
