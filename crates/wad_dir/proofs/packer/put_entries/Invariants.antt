use Rattle.std.proofs.Common.{◌≡◌, ◌+◌, ◌*◌, ◌≤◌, ◌++◌, length, take}
use Rattle.std.specs.List.{All, flat_map}
use Rattle.std.specs.Prelude.{vec_len, vec_capacity}
use Rattle.le_rec.specs.Record.{entry_bytes, entry_size}
use Rattle.wad_dir.specs.Header.{header_size}
use Rattle.wad_dir.specs.Packing.{IsName, lump_bytes, packed_entries}
use Rattle.wad_dir.proofs.packer.put_entries.Given as goal

abbrev pub invariant-loop-lump : goal.invariant-loop-lump
invariant-loop-lump g l = record {
  entries : l.file.items
      ≡ l.initial.file.items ++ flat_map entry_bytes (packed_entries (take l.lump-index l.lumps));
  places : l.place ≡ header_size + length (lump_bytes (take l.lump-index l.lumps));
  names : All (λ lump. IsName lump.name) (take l.lump-index l.lumps);
  len : vec_len l.file ≡ vec_len l.initial.file + entry_size * l.lump-index;
  room : vec_capacity l.initial.file ≤ vec_capacity l.file;
}
