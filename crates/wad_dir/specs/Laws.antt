-- Laws of directories, lookup and lumps (ours).
use Rattle.std.specs.Prelude.{◌≡◌, ℕ, List, [], ◌∷◌, map, Some}
use Rattle.std.specs.List.{AllZip, slice_get}
use Rattle.le_rec.specs.Name.{name_of}
use Rattle.le_rec.specs.declared.records.Entry.{Entry}
use Rattle.wad_dir.specs.Directory.{IsDirectory}
use Rattle.wad_dir.specs.Entries.{names}
use Rattle.wad_dir.specs.Packing.{NamedLump}
use Rattle.wad_dir.specs.Refusal.{RefusesWad}
use Rattle.wad_dir.specs.Slice.{IsLump, IsSlice}
use Rattle.wad_dir.specs.Wad.{Wad}
use Rattle.wad_dir.specs.Winner.{Wins}
use Rattle.wad_dir.specs.declared.header.Kind.{Kind}
use Rattle.wad_dir.specs.declared.wad.WadFault.{WadFault}

-- bytes have at most one directory
abbrev pub OneDirectory : Type 0
OneDirectory =
    (bytes : List ℕ) (kind other : Kind) (entries others : List Entry)
    → IsDirectory bytes kind entries → IsDirectory bytes other others
    → (kind ≡ other) × (entries ≡ others)

-- one fault at most refuses bytes
abbrev pub OneWadFault : Type 0
OneWadFault =
    (bytes : List ℕ) (fault other : WadFault) → RefusesWad bytes fault → RefusesWad bytes other
    → fault ≡ other

-- none refuses bytes that have a directory
abbrev pub DirectoriesAreNotRefused : Type 0
DirectoriesAreNotRefused =
    (bytes : List ℕ) (kind : Kind) (entries : List Entry) (fault : WadFault)
    → IsDirectory bytes kind entries → ¬ RefusesWad bytes fault

-- an entry has at most one lump in a file
abbrev pub OneLump : Type 0
OneLump =
    (bytes : List ℕ) (entry : Entry) (lump other : List ℕ)
    → IsSlice bytes entry lump → IsSlice bytes entry other → lump ≡ other

-- a name has at most one winner
abbrev pub OneWinner : Type 0
OneWinner =
    (all : List (List ℕ)) (name : List ℕ) (g h : ℕ) → Wins all name g → Wins all name h → g ≡ h

-- where the entries of a file have the names and the slices of lumps, the set of it alone has these
-- names, and lump g is that of its entry g
abbrev pub ReadsAsPacked : Type 0
ReadsAsPacked =
    (file : Wad) (lumps : List NamedLump)
    → map (λ e. name_of e.name) file.entries ≡ map (λ lump. lump.name) lumps
    → AllZip (λ e lump. IsSlice file.bytes e lump.bytes) file.entries lumps
    → (names (file ∷ []) ≡ map (λ lump. lump.name) lumps)
    × ((g : ℕ) (lump : NamedLump) → slice_get lumps g ≡ Some lump
    → IsLump (file ∷ []) g lump.bytes)
