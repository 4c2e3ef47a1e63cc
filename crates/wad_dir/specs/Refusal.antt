-- Which of the conditions of a directory fails first (ours; the kind: W_AddFile of w_wad.c).
use Rattle.std.specs.Prelude.{◌≡◌, ◌≢◌, ℕ, ◌+◌, ◌<◌, ◌≤◌, pos, ◌<ℤ◌, List, ◌∷◌, ◌++◌, length}
use Rattle.std.specs.List.{All}
use Rattle.le_rec.specs.declared.records.Entry.{Entry}
use Rattle.wad_dir.specs.Directory.{HasTable, HasDirectory}
use Rattle.wad_dir.specs.Header.{header_of, header_size, magic_of}
use Rattle.wad_dir.specs.declared.header.Kind.{Kind}
use Rattle.wad_dir.specs.declared.wad.WadFault.{WadFault}
use Rattle.wad_dir.specs.declared.wad.WadFault.TheVariants.{Short, Magic, Count, Directory}

-- a header, and in it one of the two kinds
abbrev pub HasKind : List ℕ → Type 0
HasKind bytes =
    (header_size ≤ length bytes) × ((kind : Kind) × ((header_of bytes).magic ≡ magic_of kind))

-- the fault that refuses the bytes
abbrev pub RefusesWad : List ℕ → WadFault → Type 0
RefusesWad bytes Short = length bytes < header_size
RefusesWad bytes Magic =
    (header_size ≤ length bytes) × ((kind : Kind) → (header_of bytes).magic ≢ magic_of kind)
RefusesWad bytes Count = HasKind bytes × ((header_of bytes).count <ℤ pos 0)
RefusesWad bytes Directory =
    HasKind bytes × ((n : ℕ) × (0 < n) × ((header_of bytes).count ≡ pos n)
    × ((entries : List Entry) → length entries ≡ n → ¬ HasTable bytes entries))

-- the files before a number, counted from 1, have a directory, and a fault
-- refuses the file of that number
pub record IsFirstRefused (files : List (List ℕ)) (n : ℕ) (fault : WadFault) : Type 0 where
  pub bytes : List ℕ
  pub earlier : List (List ℕ)
  pub later : List (List ℕ)
  pub joined : files ≡ earlier ++ bytes ∷ later
  pub number : n ≡ length earlier + 1
  pub read : All HasDirectory earlier
  pub refused : RefusesWad bytes fault
