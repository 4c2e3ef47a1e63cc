use Rattle.std.proofs.Common.{◌≡◌, ℕ, ◌+◌, ◌-◌, ◌≤◌, min, List, ◌++◌, length, take, ap, sym, ◌∙◌, arith, length-drop, length-take}
use Rattle.std.proofs.Math.Seq.{take-append-add}
use Rattle.std.proofs.lemmas.List.{take_min}
use Rattle.std.proofs.lemmas.Slice.{take-put_mid}
use borrow.Rule.Slice.PartMut.{mid_of, put_mid}
use Rattle.line_io.proofs.line_part.LinePart.keep.Goals as goal

-- the bytes that fit behind the part are the first ones of `more`
kept : (len count : ℕ) (bytes more new part : List ℕ) → take len bytes ≡ part → len ≤ 66
    → length bytes ≡ 66 → count ≡ min (length more) (66 - len) → new ≡ take count more
    → take (len + count) (put_mid len (len + count - len) bytes new) ≡ take 66 (part ++ more)
kept len count bytes more new part is_part within size is_count is_new =
    let size_part : length part ≡ len = omega (arith, ap length is_part, length-take {A = ℕ}) in
    let size_new : len + count ≡ len + length new =
    omega (arith, ap length is_new, length-take {A = ℕ}) in
    let full : length part + (66 - len) ≡ 66 = omega arith in
    let fits : count ≡ min (66 - len) (length more) = omega arith in
    take-put_mid len (len + count - len) bytes new (len + count) size_new (omega arith)
    ∙ rw (is_part, is_new, fits, take_min (66 - len) more)
    (sym (rw full at (take-append-add part more (66 - len))))

-- the room behind the part is as long as what is put there
room_behind : (len count : ℕ) (bytes more : List ℕ) → len ≤ 66 → length bytes ≡ 66
    → count ≡ min (length more) (66 - len)
    → length (mid_of len (len + count - len) bytes) ≡ length (take count more)
room_behind len count bytes more within size is_count =
    omega (arith, length-drop {A = ℕ}, length-take {A = ℕ})

pub copy_from_slice-requires : goal.copy_from_slice-requires
copy_from_slice-requires c =
    room_behind c.self.inside.len _ c.self.inside.bytes c.args.more.now c.self.invariant
    c.self.told c.min-count.ensures

pub returns : goal.returns
returns c =
    kept c.self.inside.len _ c.self.inside.bytes c.args.more.now _ c.args.self.now c.self.view_is
    c.self.invariant c.self.told c.min-count.ensures c.copy_from_slice.ensures.after
