-- How a path goes on, as lines show it.
use Rattle.std.proofs.Common.{◌≡◌, ℕ, zero, suc, ◌+◌, ◌-◌, ◌<◌, ◌≤◌, true, false, List, [], ◌∷◌, ◌++◌, length, take, drop, get_or, None, refl, sym, ap, ◌∙◌, arith}
use Rattle.std.specs.List.{flat_map, range_with_len}
use Rattle.std.specs.Option.{is_some}
use Rattle.std.specs.Prelude.{if◌then◌else◌, ◌==◌, ◌||◌, nat_lt, position, Option, Some}
use Rattle.std.proofs.lemmas.Bool.{cond-false, ne_eqb, or_parts}
use Rattle.std.proofs.Math.Seq.{drop-cons, drop-length, take-suc}
use Rattle.std.proofs.lemmas.List.{append_assoc, append-nil, get_or-drop, length-drop}
use Rattle.lens_texts.specs.ShownPath.{control_text, is_control_at, is_suspect, shown_after, shown_at, shown_byte, shown_path}
use Rattle.lens_texts.proofs.JsonLemmas.{none_passes}

-- the byte before an index
abbrev byte_before : List ℕ → ℕ → ℕ
byte_before path at = if at == 0 then 0 else get_or path (at - 1) 0

-- a path from an index on, as it is shown
abbrev pub shown_from : List ℕ → ℕ → List ℕ
shown_from path at = shown_after (byte_before path at) (drop at path)

-- the bytes from one index up to another as they stand, and those behind as they are shown
abbrev pub unwritten : List ℕ → ℕ → ℕ → List ℕ
unwritten path from at = take (at - from) (drop from path) ++ shown_from path at

next_before : (path : List ℕ) (at : ℕ) → byte_before path (at + 1) ≡ get_or path at 0
next_before path at =
    let back : at + 1 - 1 ≡ at = omega arith in
    cond-false (at + 1 == 0) 0 (get_or path (at + 1 - 1) 0) (ne_eqb (at + 1) 0 (λ e. omega (arith, e)))
    ∙ ap (λ k. get_or path k 0) back

shown-cons : (before byte : ℕ) (rest : List ℕ)
    → shown_after before (byte ∷ rest) ≡ shown_byte before byte (get_or rest 0 0) ++ shown_after byte rest
unfolding shown_after
shown-cons before byte rest = refl

shown-nil : (before : ℕ) → shown_after before [] ≡ []
unfolding shown_after
shown-nil before = refl

shown_first : (path : List ℕ) (at : ℕ) → at < length path
    → shown_from path at
    ≡ shown_byte (byte_before path at) (get_or path at 0) (get_or path (at + 1) 0) ++ shown_from path (at + 1)
shown_first path at within =
    let before = byte_before path at in
    let byte = get_or path at 0 in
    let one : suc at ≡ at + 1 = omega arith in
    let next : get_or (drop (suc at) path) 0 0 ≡ get_or path (at + 1) 0 =
    get_or-drop (suc at) path 0 0 ∙ ap (λ k. get_or path k 0) (omega arith) in
    let rest : shown_after byte (drop (suc at) path) ≡ shown_from path (at + 1) =
    ap (λ b. shown_after b (drop (suc at) path)) (sym (next_before path at))
    ∙ ap (λ k. shown_after (byte_before path (at + 1)) (drop k path)) one in
    ap (shown_after before) (drop-cons path at 0 within) ∙ shown-cons before byte (drop (suc at) path)
    ∙ ap (λ b. shown_byte before byte b ++ shown_after byte (drop (suc at) path)) next
    ∙ ap (λ t. shown_byte before byte (get_or path (at + 1) 0) ++ t) rest

-- a byte that stands as it is
pub unwritten-byte : (path : List ℕ) (from at : ℕ) → from ≤ at → at < length path → is_control_at path at ≡ false
    → unwritten path from at ≡ unwritten path from (at + 1)
unwritten-byte path from at ordered within plain =
    let run = drop from path in
    let byte = get_or path at 0 in
    let here : from + (at - from) ≡ at = omega (arith, ordered) in
    let longer : at + 1 - from ≡ suc (at - from) = omega (arith, ordered) in
    let inside : at - from < length run = omega (arith, length-drop from path, ordered, within) in
    let more : take (at + 1 - from) run ≡ take (at - from) run ++ (byte ∷ []) =
    ap (λ k. take k run) longer ∙ take-suc run (at - from) 0 inside
    ∙ ap (λ b. take (at - from) run ++ (b ∷ [])) (get_or-drop from path (at - from) 0 ∙ ap (λ k. get_or path k 0) here) in
    let stands : shown_byte (byte_before path at) byte (get_or path (at + 1) 0) ≡ byte ∷ [] = rw plain refl in
    ap (λ t. take (at - from) run ++ t) (shown_first path at within ∙ ap (λ t. t ++ shown_from path (at + 1)) stands)
    ∙ sym (append_assoc (take (at - from) run) (byte ∷ []) (shown_from path (at + 1)))
    ∙ ap (λ t. t ++ shown_from path (at + 1)) (sym more)

-- no byte stands before an index
unwritten-none : (path : List ℕ) (at : ℕ) → unwritten path at at ≡ shown_from path at
unwritten-none path at = let none : at - at ≡ 0 = omega arith in ap (λ n. take n (drop at path) ++ shown_from path at) none

-- a control
pub unwritten-control : (path : List ℕ) (from at : ℕ) → at < length path → is_control_at path at ≡ true
    → unwritten path from at
    ≡ (take (at - from) (drop from path) ++ control_text (get_or path at 0)) ++ unwritten path (at + 1) (at + 1)
unwritten-control path from at within control =
    let run = take (at - from) (drop from path) in
    let byte = get_or path at 0 in
    let told : shown_byte (byte_before path at) byte (get_or path (at + 1) 0) ≡ control_text byte = rw control refl in
    ap (λ t. run ++ t)
    (shown_first path at within ∙ ap (λ t. t ++ shown_from path (at + 1)) told
    ∙ ap (λ t. control_text byte ++ t) (sym (unwritten-none path (at + 1))))
    ∙ sym (append_assoc run (control_text byte) (unwritten path (at + 1) (at + 1)))

shown-end : (path : List ℕ) → shown_from path (length path) ≡ []
shown-end path = ap (shown_after (byte_before path (length path))) (drop-length path) ∙ shown-nil (byte_before path (length path))

pub unwritten-end : (path : List ℕ) (from : ℕ)
    → unwritten path from (length path) ≡ take (length path - from) (drop from path)
unwritten-end path from =
    ap (λ t. take (length path - from) (drop from path) ++ t) (shown-end path) ∙ append-nil (take (length path - from) (drop from path))

shown-rest : (path : List ℕ) (count at : ℕ) → at + count ≡ length path → shown_from path at ≡ flat_map (shown_at path) (range_with_len at count)
shown-rest path zero at all = let end : at ≡ length path = omega (arith, all) in ap (shown_from path) end ∙ shown-end path
shown-rest path (suc count) at all =
    shown_first path at (omega (arith, all))
    ∙ ap (λ t. shown_at path at ++ t) (shown-rest path count (at + 1) (omega (arith, all)))

-- a path is shown byte by byte
pub shown-bytes : (path : List ℕ) → shown_path path ≡ flat_map (shown_at path) (range_with_len 0 (length path))
shown-bytes path = shown-rest path (length path) 0 (omega arith)

-- bytes of which none is a control, nor begins one, stand as they are
shown-plain : (before : ℕ) (path : List ℕ) → (before == 194) ≡ false
    → ((k : ℕ) → k < length path → is_suspect (get_or path k 0) ≡ false) → shown_after before path ≡ path
unfolding shown_after
shown-plain before [] first none = refl
shown-plain before (byte ∷ rest) first none =
    let low = or_parts (nat_lt byte 32) (byte == 127 || byte == 194) (none 0 (omega arith)) in
    let others = or_parts (byte == 127) (byte == 194) low.1 in
    rw (low.0, others.0, others.1, first)
    (ap (λ t. byte ∷ t) (shown-plain byte rest others.1 (λ k h. none (suc k) (omega (arith, h)))))

none_of : (first : Option ℕ) → is_some first ≡ false → first ≡ None
none_of None none = refl
none_of (Some k) none = cc

pub path-plain : (path : List ℕ) → is_some (position is_suspect path) ≡ false → shown_path path ≡ path
path-plain path none = shown-plain 0 path refl (none_passes is_suspect path (none_of (position is_suspect path) none))
