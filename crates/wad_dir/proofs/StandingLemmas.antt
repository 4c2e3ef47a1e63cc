-- Stretches of bytes at a place.
use Rattle.std.proofs.Common.{◌≡◌, ℕ, ◌+◌, ◌≤◌, ℤ, pos, List, ◌++◌, length, take, drop, to_z, of_z, refl, sym, ap, ◌∙◌, arith}
use Rattle.std.proofs.lemmas.List.{length-take-le, length-drop, take-append-drop, take_at, drop_at}
use Rattle.std.proofs.lemmas.Int.{to_z-of_z}
use Rattle.std.specs.Prelude.{FitsSigned}
use Rattle.std.specs.Int.{w32}
use Rattle.wad_dir.specs.Standing.{StandsAt}

-- what a call says of a signed argument, read as that argument
pub read_number : (z : ℤ) (n : ℕ) → FitsSigned w32 z → to_z w32 (of_z w32 z) ≡ pos n → z ≡ pos n
read_number z n fits h = sym (to_z-of_z w32 z fits) ∙ h

-- what a range of indices reads stands where the range begins
pub range_stands : (bytes : List ℕ) (start size n : ℕ) (place : ℤ) → n ≡ size
    → start + size ≤ length bytes → place ≡ pos start
    → (length (take n (drop start bytes)) ≡ size) × StandsAt bytes place (take n (drop start bytes))
range_stands bytes start size n place same within at = (
  length-take-le n (drop start bytes) (rw (length-drop start bytes) (omega arith)) ∙ same,
  record {
    before = take start bytes;
    after = drop n (drop start bytes);
    joined =
        sym (ap (λ back. take start bytes ++ back)
        (take-append-drop n (drop start bytes)) ∙ take-append-drop start bytes);
    placed = ap pos (length-take-le start bytes (omega arith)) ∙ sym at;
  },
)

-- a stretch is what the range of its place and length reads
pub StandsAt-is : (bytes stretch : List ℕ) (start : ℕ) → StandsAt bytes (pos start) stretch
    → stretch ≡ take (length stretch) (drop start bytes)
StandsAt-is bytes stretch start s =
    let at : length s.before ≡ start = cc in
    let behind : drop start bytes ≡ stretch ++ s.after =
    ap (drop start) s.joined ∙ drop_at s.before (stretch ++ s.after) start at in
    sym (ap (take (length stretch)) behind ∙ take_at stretch s.after (length stretch) refl)

-- at one place there is one stretch of a length
pub StandsAt-one : (bytes stretch other : List ℕ) (place : ℤ) → StandsAt bytes place stretch
    → StandsAt bytes place other → length stretch ≡ length other → stretch ≡ other
StandsAt-one bytes stretch other place s t same =
    let n : ℕ = length s.before in
    let here : place ≡ pos n = sym s.placed in
    StandsAt-is bytes stretch n (rw here at s) ∙ ap (λ k. take k (drop n bytes)) same
    ∙ sym (StandsAt-is bytes other n (rw here at t))
