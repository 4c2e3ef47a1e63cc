-- The file of a level alone (ours).
use Rattle.std.specs.Prelude.{◌≡◌, ℕ, List, map}
use Rattle.std.specs.List.{AllZip}
use Rattle.le_rec.specs.Name.{name_of}
use Rattle.le_rec.specs.declared.records.Entry.{Entry}
use Rattle.wad_dir.specs.Directory.{IsDirectory}
use Rattle.wad_dir.specs.Packing.{NamedLump}
use Rattle.wad_dir.specs.Slice.{IsSlice}
use Rattle.wad_dir.specs.declared.header.Kind.TheVariants.{Pwad}

-- a PWAD with an entry for each lump, of its name and its bytes
pub record HoldsLumps (file : List ℕ) (lumps : List NamedLump) : Type 0 where
  pub entries : List Entry
  pub directory : IsDirectory file Pwad entries
  pub named : map (λ entry. name_of entry.name) entries ≡ map (λ lump. lump.name) lumps
  pub slices : AllZip (λ entry lump. IsSlice file entry lump.bytes) entries lumps
