-- The header of a WAD file: kind, count and place of its directory (wadinfo_t of w_wad.h; Unofficial Doom Specs 1.666, chapter 2).
use Rattle.std.specs.Prelude.{ℕ, List, [], ◌∷◌, take, codes}
use Rattle.std.proofs.Common.{refl}
use Rattle.le_rec.specs.Number.{signed32_at, magic_at}
use Rattle.le_rec.specs.Layout.{Layout, bytes_by, i32, magic}
use Rattle.wad_dir.specs.declared.header.Header.{Header}
use Rattle.wad_dir.specs.declared.header.Kind.{Kind}
use Rattle.wad_dir.specs.declared.header.Kind.TheVariants.{Iwad, Pwad}

-- wadinfo_t of w_wad.h
abbrev pub header : List ℕ → Header
header bytes = record {
  magic = magic_at bytes 0;
  count = signed32_at bytes 4;
  offset = signed32_at bytes 8;
}

abbrev pub header_layout : Layout Header
header_layout = record {
  fields = magic ∷ i32 ∷ i32 ∷ [];
  read = header;
  values = λ r. (r.magic, (r.count, (r.offset, tt)));
  reads = λ bytes. refl;
  make = λ vs. record { magic = vs.0; count = vs.1.0; offset = vs.1.1.0 };
  made = λ r. refl;
}

-- how many bytes it has
abbrev pub header_size : ℕ
header_size = 12

-- the bytes of a header
abbrev pub header_bytes : Header → List ℕ
header_bytes = bytes_by header_layout

-- the header of a file's bytes
abbrev pub header_of : List ℕ → Header
header_of bytes = header (take header_size bytes)

-- the bytes with which a file of a kind begins
abbrev pub magic_of : Kind → List ℕ
magic_of Iwad = codes "IWAD"
magic_of Pwad = codes "PWAD"
