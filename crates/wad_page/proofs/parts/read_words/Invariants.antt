use Rattle.std.proofs.Common.{◌≡◌, ℕ, List, Bor, All, map, string_bytes, take}
use Rattle.std.specs.Str.{IsUtf8}
use Rattle.wad_page.proofs.parts.read_words.Given as goal

abbrev pub invariant-loop-i : goal.invariant-loop-i
invariant-loop-i g l =
    (map string_bytes l.texts.items ≡ take l.i (map (λ (slice : Bor (List ℕ)). slice.now) l.parts.items)) × All IsUtf8 (take l.i (map (λ (slice : Bor (List ℕ)). slice.now) l.parts.items))
