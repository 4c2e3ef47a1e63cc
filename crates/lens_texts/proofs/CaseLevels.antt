-- A small level with faults and notes, on which the worked cases stand.
use Rattle.std.proofs.Common.{ℕ, ℤ, pos, negsuc, false, List, [], ◌∷◌}
use Rattle.std.specs.Prelude.{codes}
use Rattle.le_rec.specs.Table.{Rows}
use Rattle.le_rec.specs.declared.records.LineDef.{LineDef}
use Rattle.le_rec.specs.declared.records.Sector.{Sector}
use Rattle.le_rec.specs.declared.records.Thing.{Thing}
use Rattle.map_level.specs.Level.{Level}
use Rattle.map_level.specs.declared.reading.Reading.{Reading}
use Rattle.lens_texts.specs.Head.{Head}
use Rattle.lens_texts.specs.declared.form.Form.TheVariants.{Lines}
use Rattle.lens_texts.specs.declared.label.LevelLabel.{LevelLabel}

abbrev pub rows : {R : Type 0} → List R → Rows R
rows records = record { records = records; rest = 3 }

abbrev pub line : ℤ → ℤ → ℤ → ℤ → LineDef
line v1 v2 side0 side1 = record { v1 = v1; v2 = v2; flags = pos 4; special = pos 0; tag = pos 0; side0 = side0; side1 = side1 }

abbrev pub name : List ℕ
name = codes "FLAT"

abbrev pub sector : Sector
sector = record { floor = pos 0; ceiling = pos 128; floor_name = name; ceiling_name = name; light = pos 160; special = pos 0; tag = pos 0 }

abbrev pub thing : Thing
thing = record { x = pos 8; y = pos 8; angle = pos 0; kind = pos 32000; options = pos 7 }

-- two vertexes, one sector, two sidedefs; linedef 1 names sidedef 1, and so does linedef 2
abbrev pub level : Reading → Level
level reading = record {
  label = 0;
  reading = reading;
  names = [];
  things = rows [];
  linedefs = rows (line (pos 0) (pos 7) (pos 0) (negsuc 0) ∷ line (pos 0) (pos 1) (pos 9) (pos 1) ∷ line (negsuc 1) (pos 0) (negsuc 0) (pos 1) ∷ []);
  sidedefs = rows (record { xoff = pos 0; yoff = pos 0; top = name; bottom = name; middle = name; sector = pos 4 }
      ∷ record { xoff = pos 0; yoff = pos 0; top = name; bottom = name; middle = name; sector = negsuc 0 } ∷ []);
  vertexes = rows (record { x = pos 16; y = negsuc 15 } ∷ record { x = pos 20000; y = pos 1 } ∷ []);
  segs = rows (record { v1 = pos 1; v2 = pos 0; angle = pos 0; linedef = pos 5; side = pos 2; offset = pos 0 }
      ∷ record { v1 = pos 0; v2 = pos 2; angle = pos 0; linedef = pos 2; side = pos 1; offset = pos 0 } ∷ []);
  ssectors = rows (record { count = pos 9; first = pos 0 } ∷ record { count = pos 1; first = pos 2 } ∷ []);
  nodes = rows (record { x = pos 3; y = negsuc 3; dx = pos 0; dy = pos 0; box0 = []; box1 = []; child0 = 32768; child1 = 32771 }
      ∷ record { x = pos 20000; y = pos 0; dx = pos 0; dy = pos 0; box0 = []; box1 = []; child0 = 2; child1 = 32768 } ∷ []);
  sectors = rows [];
  reject = 1 ∷ [];
  blockmap = 0 ∷ 0 ∷ 0 ∷ 0 ∷ 2 ∷ 0 ∷ 2 ∷ 0 ∷ 5 ∷ 0 ∷ 255 ∷ 127 ∷ [];
}

-- the label of a level at entry 7
abbrev pub shown : List ℕ → LevelLabel
shown name = record { name = name; entry = 7; hidden = false }

abbrev pub lines_of : List ℕ → List ℕ → Head
lines_of path name = record { form = Lines; path = path; label = shown name }
