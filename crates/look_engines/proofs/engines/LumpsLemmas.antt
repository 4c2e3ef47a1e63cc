-- How the text of `lumps` goes on from an entry and from a file.
use Rattle.std.proofs.Common.{◌≡◌, ℕ, ◌+◌, List, ◌++◌, length, drop, Some, refl, arith}
use Rattle.std.specs.List.{slice_get}
use Rattle.le_rec.specs.Name.{name_of}
use Rattle.le_rec.specs.declared.records.Entry.{Entry}
use Rattle.wad_dir.specs.Wad.{Wad}
use Rattle.look_engines.specs.Engines.Lumps.{entry_line, entries_text, file_text, files_text}
use Rattle.line_io.proofs.RestLemmas.{drop-at}

-- the text of the entries from a place on
pub entries_text-drop : (entries : List Entry) (first i : ℕ) (e : Entry) → slice_get entries i ≡ Some e
    → entries_text (first + i) (drop i entries) ≡ entry_line (first + i) e.filepos e.size (name_of e.name) ++ entries_text (first + (i + 1)) (drop (i + 1) entries)
entries_text-drop entries first i e at =
    let next : first + i + 1 ≡ first + (i + 1) = omega arith in
    rw (drop-at entries i e at, next) refl

-- the text of the files from a place on
pub files_text-drop : (files : List Wad) (i first : ℕ) (file : Wad) → slice_get files i ≡ Some file
    → files_text (i + 1) first (drop i files) ≡ file_text (i + 1) first file ++ files_text (i + 1 + 1) (first + length file.entries) (drop (i + 1) files)
files_text-drop files i first file at = rw (drop-at files i file at) refl
