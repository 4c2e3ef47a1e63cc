-- The records of WAD files and levels, each field at its offset (Unofficial Doom Specs 1.666; filelump_t of w_wad.h, doomdata.h).
use Rattle.std.specs.Prelude.{ℕ, List, [], ◌∷◌}
use Rattle.std.proofs.Common.{refl}
use Rattle.le_rec.specs.Number.{unsigned16_at, signed16_at, signed32_at, name_at}
use Rattle.le_rec.specs.FieldBytes.{box_at}
use Rattle.le_rec.specs.Layout.{Layout, bytes_by, i16, u16, i32, name, bounds}
use Rattle.le_rec.specs.declared.records.Entry.{Entry}
use Rattle.le_rec.specs.declared.records.Thing.{Thing}
use Rattle.le_rec.specs.declared.records.LineDef.{LineDef}
use Rattle.le_rec.specs.declared.records.SideDef.{SideDef}
use Rattle.le_rec.specs.declared.records.Vertex.{Vertex}
use Rattle.le_rec.specs.declared.records.Seg.{Seg}
use Rattle.le_rec.specs.declared.records.SSector.{SSector}
use Rattle.le_rec.specs.declared.records.Node.{Node}
use Rattle.le_rec.specs.declared.records.Sector.{Sector}
use Rattle.le_rec.specs.declared.records.Word.{Word}

-- filelump_t of w_wad.h
abbrev pub entry : List ℕ → Entry
entry bytes = record {
  filepos = signed32_at bytes 0;
  size = signed32_at bytes 4;
  name = name_at bytes 8;
}

abbrev pub entry_layout : Layout Entry
entry_layout = record {
  fields = i32 ∷ i32 ∷ name ∷ [];
  read = entry;
  values = λ r. (r.filepos, (r.size, (r.name, tt)));
  reads = λ bytes. refl;
  make = λ vs. record { filepos = vs.0; size = vs.1.0; name = vs.1.1.0 };
  made = λ r. refl;
}

-- how many bytes an entry has
abbrev pub entry_size : ℕ
entry_size = 16

-- the bytes of an entry
abbrev pub entry_bytes : Entry → List ℕ
entry_bytes = bytes_by entry_layout

-- mapthing_t of doomdata.h
abbrev pub thing : List ℕ → Thing
thing bytes = record {
  x = signed16_at bytes 0;
  y = signed16_at bytes 2;
  angle = signed16_at bytes 4;
  kind = signed16_at bytes 6;
  options = signed16_at bytes 8;
}

abbrev pub thing_layout : Layout Thing
thing_layout = record {
  fields = i16 ∷ i16 ∷ i16 ∷ i16 ∷ i16 ∷ [];
  read = thing;
  values = λ r. (r.x, (r.y, (r.angle, (r.kind, (r.options, tt)))));
  reads = λ bytes. refl;
  make =
      λ vs. record {
        x = vs.0;
        y = vs.1.0;
        angle = vs.1.1.0;
        kind = vs.1.1.1.0;
        options = vs.1.1.1.1.0;
      };
  made = λ r. refl;
}

-- maplinedef_t of doomdata.h
abbrev pub linedef : List ℕ → LineDef
linedef bytes = record {
  v1 = signed16_at bytes 0;
  v2 = signed16_at bytes 2;
  flags = signed16_at bytes 4;
  special = signed16_at bytes 6;
  tag = signed16_at bytes 8;
  side0 = signed16_at bytes 10;
  side1 = signed16_at bytes 12;
}

abbrev pub linedef_layout : Layout LineDef
linedef_layout = record {
  fields = i16 ∷ i16 ∷ i16 ∷ i16 ∷ i16 ∷ i16 ∷ i16 ∷ [];
  read = linedef;
  values = λ r. (r.v1, (r.v2, (r.flags, (r.special, (r.tag, (r.side0, (r.side1, tt)))))));
  reads = λ bytes. refl;
  make =
      λ vs. record {
        v1 = vs.0;
        v2 = vs.1.0;
        flags = vs.1.1.0;
        special = vs.1.1.1.0;
        tag = vs.1.1.1.1.0;
        side0 = vs.1.1.1.1.1.0;
        side1 = vs.1.1.1.1.1.1.0;
      };
  made = λ r. refl;
}

-- mapsidedef_t of doomdata.h
abbrev pub sidedef : List ℕ → SideDef
sidedef bytes = record {
  xoff = signed16_at bytes 0;
  yoff = signed16_at bytes 2;
  top = name_at bytes 4;
  bottom = name_at bytes 12;
  middle = name_at bytes 20;
  sector = signed16_at bytes 28;
}

abbrev pub sidedef_layout : Layout SideDef
sidedef_layout = record {
  fields = i16 ∷ i16 ∷ name ∷ name ∷ name ∷ i16 ∷ [];
  read = sidedef;
  values = λ r. (r.xoff, (r.yoff, (r.top, (r.bottom, (r.middle, (r.sector, tt))))));
  reads = λ bytes. refl;
  make =
      λ vs. record {
        xoff = vs.0;
        yoff = vs.1.0;
        top = vs.1.1.0;
        bottom = vs.1.1.1.0;
        middle = vs.1.1.1.1.0;
        sector = vs.1.1.1.1.1.0;
      };
  made = λ r. refl;
}

-- mapvertex_t of doomdata.h
abbrev pub vertex : List ℕ → Vertex
vertex bytes = record {
  x = signed16_at bytes 0;
  y = signed16_at bytes 2;
}

abbrev pub vertex_layout : Layout Vertex
vertex_layout = record {
  fields = i16 ∷ i16 ∷ [];
  read = vertex;
  values = λ r. (r.x, (r.y, tt));
  reads = λ bytes. refl;
  make = λ vs. record { x = vs.0; y = vs.1.0 };
  made = λ r. refl;
}

-- mapseg_t of doomdata.h
abbrev pub seg : List ℕ → Seg
seg bytes = record {
  v1 = signed16_at bytes 0;
  v2 = signed16_at bytes 2;
  angle = signed16_at bytes 4;
  linedef = signed16_at bytes 6;
  side = signed16_at bytes 8;
  offset = signed16_at bytes 10;
}

abbrev pub seg_layout : Layout Seg
seg_layout = record {
  fields = i16 ∷ i16 ∷ i16 ∷ i16 ∷ i16 ∷ i16 ∷ [];
  read = seg;
  values = λ r. (r.v1, (r.v2, (r.angle, (r.linedef, (r.side, (r.offset, tt))))));
  reads = λ bytes. refl;
  make =
      λ vs. record {
        v1 = vs.0;
        v2 = vs.1.0;
        angle = vs.1.1.0;
        linedef = vs.1.1.1.0;
        side = vs.1.1.1.1.0;
        offset = vs.1.1.1.1.1.0;
      };
  made = λ r. refl;
}

-- mapsubsector_t of doomdata.h
abbrev pub ssector : List ℕ → SSector
ssector bytes = record {
  count = signed16_at bytes 0;
  first = signed16_at bytes 2;
}

abbrev pub ssector_layout : Layout SSector
ssector_layout = record {
  fields = i16 ∷ i16 ∷ [];
  read = ssector;
  values = λ r. (r.count, (r.first, tt));
  reads = λ bytes. refl;
  make = λ vs. record { count = vs.0; first = vs.1.0 };
  made = λ r. refl;
}

-- mapnode_t of doomdata.h
abbrev pub node : List ℕ → Node
node bytes = record {
  x = signed16_at bytes 0;
  y = signed16_at bytes 2;
  dx = signed16_at bytes 4;
  dy = signed16_at bytes 6;
  box0 = box_at bytes 8;
  box1 = box_at bytes 16;
  child0 = unsigned16_at bytes 24;
  child1 = unsigned16_at bytes 26;
}

abbrev pub node_layout : Layout Node
node_layout = record {
  fields = i16 ∷ i16 ∷ i16 ∷ i16 ∷ bounds ∷ bounds ∷ u16 ∷ u16 ∷ [];
  read = node;
  values = λ r. (r.x, (r.y, (r.dx, (r.dy, (r.box0, (r.box1, (r.child0, (r.child1, tt))))))));
  reads = λ bytes. refl;
  make =
      λ vs. record {
        x = vs.0;
        y = vs.1.0;
        dx = vs.1.1.0;
        dy = vs.1.1.1.0;
        box0 = vs.1.1.1.1.0;
        box1 = vs.1.1.1.1.1.0;
        child0 = vs.1.1.1.1.1.1.0;
        child1 = vs.1.1.1.1.1.1.1.0;
      };
  made = λ r. refl;
}

-- mapsector_t of doomdata.h
abbrev pub sector : List ℕ → Sector
sector bytes = record {
  floor = signed16_at bytes 0;
  ceiling = signed16_at bytes 2;
  floor_name = name_at bytes 4;
  ceiling_name = name_at bytes 12;
  light = signed16_at bytes 20;
  special = signed16_at bytes 22;
  tag = signed16_at bytes 24;
}

abbrev pub sector_layout : Layout Sector
sector_layout = record {
  fields = i16 ∷ i16 ∷ name ∷ name ∷ i16 ∷ i16 ∷ i16 ∷ [];
  read = sector;
  values =
      λ r. (
        r.floor,
        (r.ceiling, (r.floor_name, (r.ceiling_name, (r.light, (r.special, (r.tag, tt)))))),
      );
  reads = λ bytes. refl;
  make =
      λ vs. record {
        floor = vs.0;
        ceiling = vs.1.0;
        floor_name = vs.1.1.0;
        ceiling_name = vs.1.1.1.0;
        light = vs.1.1.1.1.0;
        special = vs.1.1.1.1.1.0;
        tag = vs.1.1.1.1.1.1.0;
      };
  made = λ r. refl;
}

-- a short of the BLOCKMAP lump (P_LoadBlockMap of p_setup.c)
abbrev pub word : List ℕ → Word
word bytes = record { number = signed16_at bytes 0 }

abbrev pub word_layout : Layout Word
word_layout = record {
  fields = i16 ∷ [];
  read = word;
  values = λ r. (r.number, tt);
  reads = λ bytes. refl;
  make = λ vs. record { number = vs.0 };
  made = λ r. refl;
}
