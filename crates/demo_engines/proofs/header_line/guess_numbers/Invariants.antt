use Rattle.std.proofs.Common.{◌≡◌, ◌∷◌, ◌++◌, ◌<◌, List, ℕ, length, get_or, take, drop}
use Rattle.demo_engines.specs.Parts.{FitsHeader, fields, numbers_of}
use Rattle.demo_engines.proofs.HeaderLineLemmas.{labels}
use Rattle.demo_lump.specs.declared.header.Header.{Header}
use Rattle.look_engines.specs.Listing.{header_line}
use Rattle.demo_engines.proofs.header_line.guess_numbers.Given as goal

abbrev pub invariant-loop-i : goal.invariant-loop-i
invariant-loop-i l = record {
  long : length l.numbers ≡ 13;
  small : (k : ℕ) → get_or l.numbers k 0 < 256;
  is : (h : Header) (rest : List ℕ) → FitsHeader h → l.text ≡ header_line h ++ rest
      → (take l.i l.numbers ≡ take l.i (numbers_of h)) × (l.rest ≡ fields (drop l.i labels) (drop l.i (numbers_of h)) (10 ∷ rest));
}
