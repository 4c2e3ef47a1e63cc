-- The files of a set as they are read one after another.
use Rattle.std.proofs.Common.{◌≡◌, ℕ, ◌+◌, ◌<◌, List, [], ◌∷◌, ◌++◌, length, take, drop, map, get_or, sym, ap, ◌∙◌, arith, subst}
use Rattle.std.specs.List.{All}
use Rattle.std.proofs.lemmas.List.{take_more, drop_more, take-append-drop, map_push, map-append, length-map, length-take-le}
use Rattle.std.proofs.lemmas.List.Elements.{All-map, All-weaker}
use Rattle.wad_dir.specs.Wad.{Wad, IsRead}
use Rattle.wad_dir.specs.Directory.{HasDirectory}
use Rattle.wad_dir.specs.Refusal.{RefusesWad, IsFirstRefused}
use Rattle.wad_dir.specs.declared.wad.WadFault.{WadFault}

module _ {V : Type 0} (bytes_of : V → List ℕ) (files : List V) (file : V) (i : ℕ)
    (within : i < length files) (at : file ≡ get_or files i file) where
  pub files_push : (wads : List Wad) (wad : Wad)
      → map (λ f. f.bytes) wads ≡ map bytes_of (take i files) → wad.bytes ≡ bytes_of file
      → map (λ f. f.bytes) (wads ++ wad ∷ []) ≡ map bytes_of (take (i + 1) files)
  files_push wads wad so_far read =
      map_push (λ (f : Wad). f.bytes) wads wad
      ∙ ap (λ bs. bs ++ wad.bytes ∷ []) so_far
      ∙ ap (λ b. map bytes_of (take i files) ++ b ∷ []) (read ∙ ap bytes_of at)
      ∙ sym (map_push bytes_of (take i files) (get_or files i file))
      ∙ ap (map bytes_of) (sym (take_more files i file within))

  pub first_refused : (wads : List Wad) (fault : WadFault)
      → map (λ f. f.bytes) wads ≡ map bytes_of (take i files) → All IsRead wads
      → RefusesWad (bytes_of file) fault → IsFirstRefused (map bytes_of files) (i + 1) fault
  first_refused wads fault so_far read refused = record {
    bytes = bytes_of file;
    earlier = map bytes_of (take i files);
    later = map bytes_of (drop (i + 1) files);
    joined =
        ap (map bytes_of) (sym (take-append-drop i files)
        ∙ ap (λ xs. take i files ++ xs) (drop_more files i file within))
        ∙ map-append bytes_of (take i files) (get_or files i file ∷ drop (i + 1) files)
        ∙ ap (λ b. map bytes_of (take i files) ++ (b ∷ map bytes_of (drop (i + 1) files)))
        (ap bytes_of (sym at));
    number =
        ap (λ n. n + 1)
        (sym (length-map (take i files) bytes_of ∙ length-take-le i files (omega arith)));
    read = subst (All HasDirectory) so_far
        (All-map HasDirectory (λ (f : Wad). f.bytes) wads
        (All-weaker IsRead (λ f. HasDirectory f.bytes) (λ f r. (f.kind, f.entries, r)) wads read));
    refused = refused;
  }
