-- Facts about tables.
use Rattle.std.proofs.Common.{◌≡◌, ℕ, zero, suc, ◌+◌, ◌*◌, ◌/◌, ◌<◌, ◌≤◌, List, [], length, take, drop, map, Some, refl, sym, ap, ◌∙◌, arith}
use Rattle.std.specs.List.{range_with_len, slice_get, flat_map}
use Rattle.std.proofs.Math.Nat.{div-add-mod', div-le_self}
use Rattle.std.proofs.Math.Seq.{take-add}
use Rattle.std.proofs.lemmas.List.{length-map, length-take, length-drop, drop-drop}
use Rattle.std.proofs.lemmas.List.FromFn.{length-range_with_len, get_or-map-range_with_len}
use Rattle.std.proofs.lemmas.Option.{slice_get-get_or}
use Rattle.le_rec.specs.Bytes.{AreBytes}
use Rattle.le_rec.proofs.BytesLemmas.{AreBytes-take, AreBytes-drop}
use Rattle.le_rec.specs.Table.{piece, records_of}

module _ {R : Type 0} (size : ℕ) (read : List ℕ → R) (bytes : List ℕ) where
  pub length-records_of : length (records_of size read bytes) ≡ length bytes / size
  length-records_of =
      length-map (range_with_len 0 (length bytes / size)) (λ index. read (piece size bytes index))
      ∙ length-range_with_len 0 (length bytes / size)

  -- there are no more of them than bytes
  pub few_records : length (records_of size read bytes) ≤ length bytes
  few_records = omega (arith, length-records_of, div-le_self (length bytes) size)

  -- the record of a number is read of its piece
  pub slice_get-records_of : (index : ℕ) → index < length bytes / size
      → slice_get (records_of size read bytes) index ≡ Some (read (piece size bytes index))
  slice_get-records_of index h =
      let within : index < length (records_of size read bytes) = rw length-records_of h in
      slice_get-get_or (records_of size read bytes) index (read []) within
      ∙ ap Some (get_or-map-range_with_len (λ index. read (piece size bytes index)) 0
      (length bytes / size) index index (read []) h (omega arith))

-- the bytes of the records from a number on, joined, are the pieces joined
joined_from : {R : Type 0} (size : ℕ) (read : List ℕ → R) (write : R → List ℕ) (bytes : List ℕ)
    → ((piece : List ℕ) → length piece ≡ size → AreBytes piece → write (read piece) ≡ piece)
    → AreBytes bytes
    → (count start : ℕ) → (start + count) * size ≤ length bytes
    → flat_map write (map (λ index. read (piece size bytes index)) (range_with_len start count))
    ≡ take (count * size) (drop (start * size) bytes)
joined_from size read write bytes back bs zero start h =
    let none : 0 * size ≡ 0 = omega arith in
    rw none refl
joined_from size read write bytes back bs (suc count) start h =
    let after = drop (start * size) bytes in
    let next : start * size + size ≡ (start + 1) * size = omega arith in
    let all : size + count * size ≡ suc count * size = omega arith in
    let whole : length (piece size bytes start) ≡ size =
    simp (length-take, length-drop) (omega arith) in
    let first =
    back (piece size bytes start) whole
    (AreBytes-take size after (AreBytes-drop (start * size) bytes bs)) in
    let rest = joined_from size read write bytes back bs count (start + 1) (omega arith) in
    rw (
      first,
      rest,
      ← next,
      ← drop-drop size (start * size) bytes,
      ← all,
    ) (sym (take-add size (count * size) after))

-- the bytes of the records, joined, are all the bytes but those left over
pub joined-records_of : {R : Type 0} (size : ℕ) (read : List ℕ → R) (write : R → List ℕ)
    (bytes : List ℕ)
    → 0 < size
    → ((piece : List ℕ) → length piece ≡ size → AreBytes piece → write (read piece) ≡ piece)
    → AreBytes bytes
    → flat_map write (records_of size read bytes) ≡ take (length bytes / size * size) bytes
joined-records_of size read write bytes positive back bs =
    let fits : (0 + length bytes / size) * size ≤ length bytes =
    omega (arith, div-add-mod' (length bytes) size) in
    let start : 0 * size ≡ 0 = omega arith in
    joined_from size read write bytes back bs (length bytes / size) 0 fits
    ∙ ap (λ n. take (length bytes / size * size) (drop n bytes)) start
