-- The paths and the bytes of files.
use Rattle.std.proofs.Common.{◌≡◌, ℕ, ◌+◌, ◌<◌, List, Bor, [], ◌∷◌, ◌++◌, length, map, take, get_or, sym, ap, ◌∙◌, arith}
use Rattle.std.proofs.lemmas.List.{length-map, map_push, take_more}
use Rattle.wadlook_c.specs.Run.{AddsFile, AreParts, HaveParts}
use Rattle.wadlook_c.specs.declared.run.Parts.{Parts}
use Rattle.wadlook_c.specs.declared.run.WadlookFile.{WadlookFile}

-- there are as many of both
pub as_many_parts : (files : List WadlookFile) (paths bytes : List (Bor (List ℕ))) → HaveParts files paths bytes → length paths ≡ length bytes
as_many_parts files paths bytes have =
    omega (
      arith,
      ap length have.paths_are,
      ap length have.bytes_are,
      length-map paths (λ (path : Bor (List ℕ)). path.now),
      length-map bytes (λ (one : Bor (List ℕ)). one.now),
      length-map files (λ (file : WadlookFile). file.path.now),
      length-map files (λ (file : WadlookFile). file.bytes.now),
    )

-- one file more
pub parts_more : (files : List WadlookFile) (i : ℕ) (d : WadlookFile) (old new : Parts) → i < length files → AddsFile (get_or files i d) old new
    → AreParts (take i files) old → AreParts (take (i + 1) files) new
parts_more files i d old new within adds have =
    let file = get_or files i d in
    let front : take (i + 1) files ≡ take i files ++ file ∷ [] = take_more files i d within in
    record {
      paths_are = ap (map (λ (path : Bor (List ℕ)). path.now)) adds.path ∙ map_push (λ (path : Bor (List ℕ)). path.now) old.paths.items file.path
          ∙ ap (λ ps. ps ++ file.path.now ∷ []) have.paths_are
          ∙ sym (ap (map (λ (f : WadlookFile). f.path.now)) front ∙ map_push (λ (f : WadlookFile). f.path.now) (take i files) file);
      bytes_are = ap (map (λ (one : Bor (List ℕ)). one.now)) adds.bytes ∙ map_push (λ (one : Bor (List ℕ)). one.now) old.bytes.items file.bytes
          ∙ ap (λ bs. bs ++ file.bytes.now ∷ []) have.bytes_are
          ∙ sym (ap (map (λ (f : WadlookFile). f.bytes.now)) front ∙ map_push (λ (f : WadlookFile). f.bytes.now) (take i files) file);
    }
