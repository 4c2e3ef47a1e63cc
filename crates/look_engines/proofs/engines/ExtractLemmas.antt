-- Lumps under their names, one more at a time.
use Rattle.std.proofs.Common.{◌≡◌, ℕ, zero, suc, ◌+◌, ◌-◌, ◌<◌, ◌≤◌, List, [], ◌∷◌, ◌++◌, length, take, Some, refl, ap, ◌∙◌, arith}
use Rattle.std.proofs.lemmas.List.{take_all}
use Rattle.std.specs.List.{slice_get}
use Rattle.std.proofs.lemmas.Option.{slice_get-get_or, slice_get_within}
use Rattle.wad_dir.specs.Wad.{Wad}
use Rattle.wad_dir.specs.Entries.{joined}
use Rattle.wad_dir.specs.Slice.{IsLump}
use Rattle.wad_dir.specs.Packing.{NamedLump}
use Rattle.map_level.specs.Level.{lump_of}
use Rattle.map_level.specs.Opening.{AreLumps}
use Rattle.wad_dir.proofs.LumpLemmas.{IsLump-one}
use Rattle.look_engines.specs.Engines.Extract.{named_lumps, extracted}

abbrev named : List ℕ → List ℕ → NamedLump
named name bytes = record { name = name; bytes = bytes }

-- the lump of a number under its name, behind those before it
take-named : (names lumps : List (List ℕ)) (k : ℕ) (name bytes : List ℕ) → slice_get names k ≡ Some name → slice_get lumps k ≡ Some bytes
    → take (k + 1) (named_lumps names lumps) ≡ take k (named_lumps names lumps) ++ named name bytes ∷ []
take-named [] lumps k name bytes at there = cc
take-named (n ∷ names) [] k name bytes at there = cc
take-named (n ∷ names) (b ∷ lumps) zero name bytes at there =
    let same_name : n ≡ name = cc in
    let same_bytes : b ≡ bytes = cc in
    rw (same_name, same_bytes) refl
take-named (n ∷ names) (b ∷ lumps) (suc k) name bytes at there =
    let next : suc k + 1 ≡ suc (k + 1) = omega arith in
    rw next (ap (λ front. named n b ∷ front) (take-named names lumps k name bytes at there))

-- lump k of the ten stands behind the label's
pub lump-at : (lumps : List (List ℕ)) (k : ℕ) → length lumps ≡ 10 → 1 ≤ k → k ≤ 10 → slice_get ([] ∷ lumps) k ≡ Some (lump_of lumps k)
lump-at lumps zero ten from to = absurd (omega arith)
lump-at lumps (suc k) ten from to =
    let before : suc k - 1 ≡ k = omega arith in
    rw before (slice_get-get_or ([] ∷ lumps) (suc k) [] (omega arith))

-- one more lump is added under its name
pub extracted-more : (files : List Wad) (label : ℕ) (names lumps : List (List ℕ)) (k : ℕ) (name bytes : List ℕ) → AreLumps files label lumps → 1 ≤ k → k ≤ 10
    → slice_get names k ≡ Some name → IsLump files (label + k) bytes → take (k + 1) (extracted names lumps) ≡ take k (extracted names lumps) ++ named name bytes ∷ []
extracted-more files label names lumps k name bytes are from to at lump =
    let same = IsLump-one files (label + k) (lump_of lumps k) bytes (are.each k from to) lump in
    take-named names ([] ∷ lumps) k name bytes at (lump-at lumps k are.ten from to ∙ ap Some same)

-- the label comes first
pub extracted-first : (names lumps : List (List ℕ)) (name : List ℕ) → slice_get names 0 ≡ Some name → take 1 (extracted names lumps) ≡ named name [] ∷ []
extracted-first names lumps name at = take-named names ([] ∷ lumps) 0 name [] at refl

length-named : (names lumps : List (List ℕ)) → length names ≡ length lumps → length (named_lumps names lumps) ≡ length names
length-named [] lumps same = refl
length-named (name ∷ names) [] same = absurd (omega arith)
length-named (name ∷ names) (bytes ∷ lumps) same = ap suc (length-named names lumps (omega arith))

-- eleven lumps are all of them
pub extracted-all : (names lumps : List (List ℕ)) → length names ≡ 11 → length lumps ≡ 10 → take 11 (extracted names lumps) ≡ extracted names lumps
extracted-all names lumps eleven ten =
    let long = length-named names ([] ∷ lumps) (omega arith) in
    take_all 11 (extracted names lumps) (omega arith)

-- an entry whose lump is there is listed
pub there_listed : (files : List Wad) (g : ℕ) (lump : List ℕ) → IsLump files g lump → g < length (joined files)
there_listed files g lump there = slice_get_within (joined files) g there.listed there.numbered
