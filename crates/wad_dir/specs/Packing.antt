-- The file that lumps are packed into (Unofficial Doom Specs 1.666, chapter 2).
use Rattle.std.specs.Prelude.{◌≡◌, ℕ, ◌+◌, pos, List, [], ◌∷◌, ◌++◌, length}
use Rattle.std.specs.List.{flat_map}
use Rattle.le_rec.specs.Name.{name_of, padded}
use Rattle.le_rec.specs.Record.{entry_bytes}
use Rattle.le_rec.specs.declared.records.Entry.{Entry}
use Rattle.wad_dir.specs.Header.{header_bytes, header_size, magic_of}
use Rattle.wad_dir.specs.declared.header.Header.{Header}
use Rattle.wad_dir.specs.declared.header.Kind.TheVariants.{Pwad}

-- a lump under a name
pub record NamedLump : Type 0 where
  pub name : List ℕ
  pub bytes : List ℕ

-- a record holds the name as it is
pub record IsName (name : List ℕ) : Type 0 where
  pub eight : length (padded name) ≡ 8
  pub kept : name_of (padded name) ≡ name

-- the lumps one after another
abbrev pub lump_bytes : List NamedLump → List ℕ
lump_bytes lumps = flat_map (λ lump. lump.bytes) lumps

-- their entries, where the first lump stands at a place
abbrev pub entries_from : ℕ → List NamedLump → List Entry
entries_from place [] = []
entries_from place (lump ∷ lumps) =
    record { filepos = pos place; size = pos (length lump.bytes); name = padded lump.name }
    ∷ entries_from (place + length lump.bytes) lumps

-- their entries in the packed file, where the first lump stands behind the header
abbrev pub packed_entries : List NamedLump → List Entry
packed_entries lumps = entries_from header_size lumps

-- its header: the directory stands behind the lumps
abbrev pub packed_header : List NamedLump → Header
packed_header lumps = record {
  magic = magic_of Pwad;
  count = pos (length lumps);
  offset = pos (header_size + length (lump_bytes lumps));
}

-- the header, the lumps and the directory
abbrev pub packed : List NamedLump → List ℕ
packed lumps =
    header_bytes (packed_header lumps)
    ++ (lump_bytes lumps ++ flat_map entry_bytes (packed_entries lumps))
