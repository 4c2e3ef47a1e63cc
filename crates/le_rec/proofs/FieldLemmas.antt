-- A field's bytes at its offset, before the bytes that follow it.
use Rattle.std.proofs.Common.{◌≡◌, ℕ, ◌+◌, ◌≤◌, List, [], ◌∷◌, ◌++◌, take, drop, length, slice_index, slice_index_or, refl, subst, pos, sym, ap, ◌∙◌, arith, ℤ}
use Rattle.std.proofs.Math.ListN.{drop_of_length-le}
use Rattle.std.proofs.lemmas.List.{drop_more, drop-drop, take-append-drop, length-take, length-drop}
use Rattle.std.proofs.lemmas.List.Elements.{All-cons, All-nil}
use Rattle.le_rec.specs.Bytes.{AreBytes}
use Rattle.le_rec.proofs.BytesLemmas.{AreBytes-take, AreBytes-drop, AreBytes-append, AreBytes-bytes16}
use Rattle.le_rec.specs.Number.{unsigned16_at, signed16_at, signed32_at, magic_at, name_at, bytes16, signed_bytes16, signed_bytes32}
use Rattle.le_rec.specs.FieldBytes.{box_at, box_bytes, magic_bytes, name_bytes}
use Rattle.le_rec.specs.FieldRange.{IsByteField, IsBox, IsSigned16}
use Rattle.le_rec.proofs.NumberLemmas.{signed16-bytes16, FitsSigned-signed16, bytes16-unsigned16, signed_bytes16-signed16, signed_bytes32-signed32}

-- two and four items at an offset, and what follows them
module _ {X : Type 0} (d : X) (xs : List X) (at : ℕ) where
  drop-two : at + 2 ≤ length xs
      → drop at xs ≡ slice_index_or xs at d ∷ slice_index_or xs (at + 1) d ∷ drop (at + 2) xs
  drop-two h =
      let next : at + 1 + 1 ≡ at + 2 = omega arith in
      drop_more xs at d (omega arith)
      ∙ ap (λ rest. slice_index_or xs at d ∷ rest) (drop_more xs (at + 1) d (omega arith))
      ∙ ap (λ n. slice_index_or xs at d ∷ slice_index_or xs (at + 1) d ∷ drop n xs) next

drop-four : {X : Type 0} (d : X) (xs : List X) (at : ℕ) → at + 4 ≤ length xs
    → drop at xs
    ≡ slice_index_or xs at d ∷ slice_index_or xs (at + 1) d ∷ slice_index_or xs (at + 2) d
    ∷ slice_index_or xs (at + 3) d ∷ drop (at + 4) xs
drop-four d xs at h =
    let third : at + 2 + 1 ≡ at + 3 = omega arith in
    let last : at + 2 + 2 ≡ at + 4 = omega arith in
    drop-two d xs at (omega arith)
    ∙ ap (λ rest. slice_index_or xs at d ∷ slice_index_or xs (at + 1) d ∷ rest)
    (drop-two d xs (at + 2) (omega arith))
    ∙ ap (λ n. slice_index_or xs at d ∷ slice_index_or xs (at + 1) d ∷ slice_index_or xs (at + 2) d
    ∷ slice_index_or xs n d ∷ drop (at + 2 + 2) xs) third
    ∙ ap (λ n. slice_index_or xs at d ∷ slice_index_or xs (at + 1) d ∷ slice_index_or xs (at + 2) d
    ∷ slice_index_or xs (at + 3) d ∷ drop n xs) last

-- a magic is its four bytes, and a name its eight
pub magic_bytes-is : (magic : List ℕ) → length magic ≡ 4 → magic_bytes magic ≡ magic
magic_bytes-is magic h =
    sym (drop-four 0 magic 0 (omega arith)
    ∙ ap (λ rest. slice_index magic 0 ∷ slice_index magic 1 ∷ slice_index magic 2
    ∷ slice_index magic 3 ∷ rest) (drop_of_length-le magic {i = 4} (omega arith)))

pub name_bytes-is : (name : List ℕ) → length name ≡ 8 → name_bytes name ≡ name
name_bytes-is name h =
    sym (drop-four 0 name 0 (omega arith)
    ∙ ap (λ rest. slice_index name 0 ∷ slice_index name 1 ∷ slice_index name 2 ∷ slice_index name 3
    ∷ rest)
    (drop-four 0 name 4 (omega arith)
    ∙ ap (λ rest. slice_index name 4 ∷ slice_index name 5 ∷ slice_index name 6 ∷ slice_index name 7
    ∷ rest) (drop_of_length-le name {i = 8} (omega arith))))

pub IsByteField-take : (n : ℕ) (bytes : List ℕ) (at : ℕ) → AreBytes bytes → at + n ≤ length bytes
    → IsByteField n (take n (drop at bytes))
IsByteField-take n bytes at bs h = record {
  length_is = simp (length-take, length-drop) (omega arith);
  are_bytes = AreBytes-take n (drop at bytes) (AreBytes-drop at bytes bs);
}

-- a bounding box is its four numbers, and they read back
pub box-box_bytes : (box : List ℤ) → IsBox box → box_at (box_bytes box) 0 ≡ box
box-box_bytes box h =
    let number : ℕ → ℤ = λ i. slice_index_or box i (pos 0) in
    rw (
      signed16-bytes16 (number 0) (h.fits 0 (pos 0) (omega (arith, h.length_is))),
      signed16-bytes16 (number 1) (h.fits 1 (pos 0) (omega (arith, h.length_is))),
      signed16-bytes16 (number 2) (h.fits 2 (pos 0) (omega (arith, h.length_is))),
      signed16-bytes16 (number 3) (h.fits 3 (pos 0) (omega (arith, h.length_is))),
    )
    (sym (drop-four (pos 0) box 0 (omega (arith, h.length_is))
    ∙ ap (λ rest. number 0 ∷ number 1 ∷ number 2 ∷ number 3 ∷ rest)
    (drop_of_length-le box {i = 4} (omega (arith, h.length_is)))))

pub IsBox-box_at : (bytes : List ℕ) (at : ℕ) → AreBytes bytes → IsBox (box_at bytes at)
IsBox-box_at bytes at bs =
    let number : (i : ℕ) → IsSigned16 (signed16_at bytes i) =
    λ i. FitsSigned-signed16 _ _ (bs.each i) (bs.each (i + 1)) in
    let left : List ℤ = signed16_at bytes (at + 4) ∷ signed16_at bytes (at + 6) ∷ [] in
    record {
      length_is = refl;
      fits =
          All-cons IsSigned16 (signed16_at bytes at) (signed16_at bytes (at + 2) ∷ left) (number at)
          (All-cons IsSigned16 (signed16_at bytes (at + 2)) left (number (at + 2))
          (All-cons IsSigned16 (signed16_at bytes (at + 4)) (signed16_at bytes (at + 6) ∷ [])
          (number (at + 4))
          (All-cons IsSigned16 (signed16_at bytes (at + 6)) [] (number (at + 6))
          (All-nil IsSigned16))));
    }

module _ (bytes rest : List ℕ) (at : ℕ) (bs : AreBytes bytes) where
  pub unsigned16-field : at + 2 ≤ length bytes → rest ≡ drop (at + 2) bytes
      → bytes16 (unsigned16_at bytes at) ++ rest ≡ drop at bytes
  unsigned16-field h e =
      ap (λ front. front ++ rest) (bytes16-unsigned16 _ _ (bs.each at) (bs.each (at + 1)))
      ∙ ap (λ back. slice_index bytes at ∷ slice_index bytes (at + 1) ∷ back) e
      ∙ sym (drop-two 0 bytes at h)

  pub signed16-field : at + 2 ≤ length bytes → rest ≡ drop (at + 2) bytes
      → signed_bytes16 (signed16_at bytes at) ++ rest ≡ drop at bytes
  signed16-field h e =
      ap (λ front. front ++ rest) (signed_bytes16-signed16 _ _ (bs.each at) (bs.each (at + 1)))
      ∙ ap (λ back. slice_index bytes at ∷ slice_index bytes (at + 1) ∷ back) e
      ∙ sym (drop-two 0 bytes at h)

  pub signed32-field : at + 4 ≤ length bytes → rest ≡ drop (at + 4) bytes
      → signed_bytes32 (signed32_at bytes at) ++ rest ≡ drop at bytes
  signed32-field h e =
      ap (λ front. front ++ rest)
      (signed_bytes32-signed32 _ _ _ _ (bs.each at) (bs.each (at + 1)) (bs.each (at + 2))
      (bs.each (at + 3)))
      ∙ ap (λ back. slice_index bytes at ∷ slice_index bytes (at + 1) ∷ slice_index bytes (at + 2)
      ∷ slice_index bytes (at + 3) ∷ back) e
      ∙ sym (drop-four 0 bytes at h)

  byte-field : (n : ℕ) (front : List ℕ) → front ≡ take n (drop at bytes)
      → rest ≡ drop (at + n) bytes → front ++ rest ≡ drop at bytes
  byte-field n front is e =
      ap (λ bs. bs ++ rest) is
      ∙ ap (λ back. take n (drop at bytes) ++ back) (e ∙ sym (drop-drop n at bytes))
      ∙ take-append-drop n (drop at bytes)

  pub magic-field : at + 4 ≤ length bytes → rest ≡ drop (at + 4) bytes
      → magic_bytes (magic_at bytes at) ++ rest ≡ drop at bytes
  magic-field h e =
      byte-field 4 _
      (magic_bytes-is (magic_at bytes at) (IsByteField-take 4 bytes at bs h).length_is) e

  pub name-field : at + 8 ≤ length bytes → rest ≡ drop (at + 8) bytes
      → name_bytes (name_at bytes at) ++ rest ≡ drop at bytes
  name-field h e =
      byte-field 8 _
      (name_bytes-is (name_at bytes at) (IsByteField-take 8 bytes at bs h).length_is) e

pub box-field : (bytes rest : List ℕ) (at : ℕ) → AreBytes bytes → at + 8 ≤ length bytes
    → rest ≡ drop (at + 8) bytes
    → box_bytes (box_at bytes at) ++ rest ≡ drop at bytes
box-field bytes rest at bs h e =
    let two : at + 4 ≡ at + 2 + 2 = omega arith in
    let four : at + 6 ≡ at + 4 + 2 = omega arith in
    let six : at + 8 ≡ at + 6 + 2 = omega arith in
    let skip : ℕ → List ℕ = λ n. drop n bytes in
    signed16-field bytes _ at bs (omega arith)
    (signed16-field bytes _ (at + 2) bs (omega arith)
    (signed16-field bytes _ (at + 4) bs (omega arith)
    (signed16-field bytes rest (at + 6) bs (omega arith) (e ∙ ap skip six) ∙ ap skip four)
    ∙ ap skip two))

-- the bytes of fields are bytes
pub AreBytes-magic_bytes : (magic : List ℕ) → IsByteField 4 magic → AreBytes (magic_bytes magic)
AreBytes-magic_bytes magic h = subst AreBytes (sym (magic_bytes-is magic h.length_is)) h.are_bytes

pub AreBytes-name_bytes : (name : List ℕ) → IsByteField 8 name → AreBytes (name_bytes name)
AreBytes-name_bytes name h = subst AreBytes (sym (name_bytes-is name h.length_is)) h.are_bytes

pub AreBytes-box_bytes : (box : List ℤ) → AreBytes (box_bytes box)
AreBytes-box_bytes box =
    AreBytes-append _ _ (AreBytes-bytes16 _) (AreBytes-append _ _ (AreBytes-bytes16 _)
    (AreBytes-append _ _ (AreBytes-bytes16 _) (AreBytes-bytes16 _)))
