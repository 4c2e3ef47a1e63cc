-- How a JSON string's text goes on.
use Rattle.std.proofs.Common.{◌≡◌, ℕ, zero, suc, ◌+◌, ◌<◌, ◌≤◌, Bool, true, false, List, [], ◌∷◌, ◌++◌, length, take, drop, get_or, Some, None, refl, sym, ap, ◌∙◌, arith}
use Rattle.std.specs.Prelude.{if◌then◌else◌, not, cond, position, ◌==◌}
use Rattle.std.specs.List.{flat_map, position_or_len}
use Rattle.std.specs.Str.Lossy.{utf8_lossy, utf8_valid_len, utf8_invalid_len, replacement_bytes}
use Rattle.std.proofs.lemmas.List.{append_assoc, append-nil}
use Rattle.std.proofs.lemmas.List.Concat.{flat_map-append}
use Rattle.std.proofs.lemmas.List.Quantifiers.{position-Some}
use Rattle.std.proofs.lemmas.List.Sums.{prefix_len_passes}
use Rattle.std.proofs.lemmas.Bool.{ltb-false, not-true, ne_eqb, cond-false}
use Rattle.std.proofs.lemmas.Str.{utf8_lossy_chunk, utf8_lossy_last_chunk}
use Rattle.lens_texts.specs.JsonString.{needs_escape, escape_of, escaped, replaced}

-- bytes one by one, those that pass a test by another text
abbrev changed : (ℕ → Bool) → (ℕ → List ℕ) → List ℕ → List ℕ
changed p f text = flat_map (λ b. if p b then f b else b ∷ []) text

changed-plain : (p : ℕ → Bool) (f : ℕ → List ℕ) (text : List ℕ)
    → ((k : ℕ) → k < length text → p (get_or text k 0) ≡ false) → changed p f text ≡ text
changed-plain p f [] none = refl
changed-plain p f (b ∷ text) none =
    let plain : p b ≡ false = none 0 (omega arith) in
    rw plain (ap (λ t. b ∷ t) (changed-plain p f text (λ k h. none (suc k) (omega arith))))

changed-run : (p : ℕ → Bool) (f : ℕ → List ℕ) (text : List ℕ) (at : ℕ) → at < length text
    → p (get_or text at 0) ≡ true → ((k : ℕ) → k < at → p (get_or text k 0) ≡ false)
    → changed p f text ≡ (take at text ++ f (get_or text at 0)) ++ changed p f (drop (at + 1) text)
changed-run p f [] at within here before = absurd (omega (arith, within))
changed-run p f (b ∷ text) zero within here before = rw here refl
changed-run p f (b ∷ text) (suc at) within here before =
    let plain : p b ≡ false = before 0 (omega arith) in
    let next : suc at + 1 ≡ suc (at + 1) = omega arith in
    rw (plain, next) (ap (λ t. b ∷ t) (changed-run p f text at (omega (arith, within)) here (λ k h. before (suc k) (omega (arith, h)))))

cond_none : (b : Bool) (n : ℕ) → cond b (Some n) None ≡ None → b ≡ false
cond_none true n e = cc
cond_none false n e = refl

-- where none passes a test, each fails it
pub none_passes : (p : ℕ → Bool) (xs : List ℕ) → position p xs ≡ None → (k : ℕ) → k < length xs → p (get_or xs k 0) ≡ false
none_passes p xs none k within =
    let past : length xs ≤ position_or_len p xs = ltb-false (position_or_len p xs) (length xs) (cond_none _ _ none) in
    not-true _ (prefix_len_passes (λ x. not (p x)) xs k 0 (omega arith))

-- no byte of a text needs to be escaped
pub escaped-plain : (text : List ℕ) → position needs_escape text ≡ None → escaped text ≡ text
escaped-plain text none = changed-plain needs_escape escape_of text (none_passes needs_escape text none)

-- up to the first byte that does
pub escaped-run : (text : List ℕ) (at : ℕ) → position needs_escape text ≡ Some at
    → escaped text ≡ (take at text ++ escape_of (get_or text at 0)) ++ escaped (drop (at + 1) text)
escaped-run text at first =
    let told = position-Some needs_escape text at 0 first in
    changed-run needs_escape escape_of text at told.0 told.1 told.2

-- U+FFFD stands for some bytes
pub replaced-some : (b : ℕ) (invalid : List ℕ) → replaced (b ∷ invalid) ≡ replacement_bytes
replaced-some b invalid = cond-false (suc (length invalid) == 0) [] replacement_bytes (ne_eqb (suc (length invalid)) 0 (λ e. cc))

-- one chunk of bytes, and those after it
pub escaped-chunk : (bytes valid invalid rest : List ℕ) → bytes ≡ valid ++ (invalid ++ rest)
    → length valid ≡ utf8_valid_len bytes → length invalid ≡ utf8_invalid_len (drop (utf8_valid_len bytes) bytes)
    → (length invalid ≡ 0 → length rest ≡ 0)
    → escaped (utf8_lossy bytes) ≡ (escaped valid ++ replaced invalid) ++ escaped (utf8_lossy rest)
escaped-chunk bytes valid [] rest is counted none last =
    ap escaped (utf8_lossy_last_chunk bytes valid [] rest is counted refl (last refl))
    ∙ flat_map-append _ valid (utf8_lossy rest) ∙ ap (λ t. t ++ escaped (utf8_lossy rest)) (sym (append-nil (escaped valid)))
escaped-chunk bytes valid (b ∷ invalid) rest is counted some last =
    let there : replaced (b ∷ invalid) ≡ replacement_bytes = replaced-some b invalid in
    rw there
    (ap escaped (utf8_lossy_chunk bytes valid (b ∷ invalid) rest is counted some (omega arith))
    ∙ flat_map-append _ valid (replacement_bytes ++ utf8_lossy rest)
    ∙ sym (append_assoc (escaped valid) replacement_bytes (escaped (utf8_lossy rest))))
