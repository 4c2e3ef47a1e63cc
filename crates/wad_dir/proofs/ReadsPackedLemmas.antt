-- A file whose entries have the bytes of some lumps, and their names, reads as these lumps.
use Rattle.std.proofs.Common.{◌≡◌, ℕ, zero, suc, List, [], ◌∷◌, ◌++◌, map, Some, refl, ap, ◌∙◌, subst}
use Rattle.std.specs.List.{AllZip, slice_get}
use Rattle.le_rec.specs.Name.{name_of}
use Rattle.le_rec.specs.declared.records.Entry.{Entry}
use Rattle.wad_dir.specs.Entries.{Listed, listed_name}
use Rattle.wad_dir.specs.Laws.{ReadsAsPacked}
use Rattle.wad_dir.specs.Slice.{IsSlice}
use Rattle.wad_dir.specs.Packing.{NamedLump}

-- the entry at a lump's place has its bytes
entry-at : (file : List ℕ) (entries : List Entry) (lumps : List NamedLump) (k : ℕ)
    (lump : NamedLump)
    → AllZip (λ (e : Entry) (l : NamedLump). IsSlice file e l.bytes) entries lumps
    → slice_get lumps k ≡ Some lump
    → (e : Entry) × (slice_get entries k ≡ Some e) × IsSlice file e lump.bytes
entry-at file [] [] k lump zip at = cc
entry-at file [] (l ∷ lumps) k lump zip at = absurd zip
entry-at file (e ∷ entries) [] k lump zip at = absurd zip
entry-at file (e ∷ entries) (l ∷ lumps) zero lump zip at =
    let same : l ≡ lump = cc in
    (e, refl, subst (λ (x : NamedLump). IsSlice file e x.bytes) same zip.0)
entry-at file (e ∷ entries) (l ∷ lumps) (suc k) lump zip at =
    entry-at file entries lumps k lump zip.1 at

-- the entries of one file, and their names
listed-at : (bytes : List ℕ) (entries : List Entry) (k : ℕ) (e : Entry)
    → slice_get entries k ≡ Some e
    → slice_get (map (λ (x : Entry). let l : Listed = record { file = 1; bytes = bytes; entry = x } in l) entries ++ []) k ≡ Some (record { file = 1; bytes = bytes; entry = e })
listed-at bytes [] k e at = cc
listed-at bytes (x ∷ entries) zero e at = let same : x ≡ e = cc in rw same refl
listed-at bytes (x ∷ entries) (suc k) e at = listed-at bytes entries k e at

names-alone : (bytes : List ℕ) (entries : List Entry)
    → map listed_name (map (λ (x : Entry). let l : Listed = record { file = 1; bytes = bytes; entry = x } in l) entries ++ []) ≡ map (λ (x : Entry). name_of x.name) entries
names-alone bytes [] = refl
names-alone bytes (x ∷ entries) =
    ap (λ rest. name_of x.name ∷ rest) (names-alone bytes entries)

pub reads_as_packed : ReadsAsPacked
reads_as_packed file lumps named zip = (
  names-alone file.bytes file.entries ∙ named,
  λ g lump at.
      let entry = entry-at file.bytes file.entries lumps g lump zip at in
      record {
        listed = record { file = 1; bytes = file.bytes; entry = entry.0 };
        numbered = listed-at file.bytes file.entries g entry.0 entry.1;
        slice = entry.2;
      },
)
