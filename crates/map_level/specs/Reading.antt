-- How a level's indexes are read (signed: P_SetupLevel's loads of p_setup.c; wide: the extended limits of later ports).
use Rattle.std.specs.Prelude.{ℤ, pos, ◌+ℤ◌, int_lt, if◌then◌else◌}
use Rattle.le_rec.specs.declared.records.LineDef.{LineDef}
use Rattle.le_rec.specs.declared.records.SideDef.{SideDef}
use Rattle.le_rec.specs.declared.records.Seg.{Seg}
use Rattle.le_rec.specs.declared.records.SSector.{SSector}
use Rattle.map_level.specs.declared.reading.Reading.{Reading}
use Rattle.map_level.specs.declared.reading.Reading.TheVariants.{Signed, Wide}

-- a word as an index under a reading: the wide one raises negative words by 65536
abbrev pub number_of : Reading → ℤ → ℤ
number_of Signed word = word
number_of Wide word = if int_lt word (pos 0) then word +ℤ pos 65536 else word

-- the records under a reading: which fields are indexes
abbrev pub linedef_under : Reading → LineDef → LineDef
linedef_under reading r = record r {
  v1 = number_of reading r.v1;
  v2 = number_of reading r.v2;
  side0 = number_of reading r.side0;
  side1 = number_of reading r.side1;
}

abbrev pub sidedef_under : Reading → SideDef → SideDef
sidedef_under reading r = record r { sector = number_of reading r.sector }

abbrev pub seg_under : Reading → Seg → Seg
seg_under reading r = record r {
  v1 = number_of reading r.v1;
  v2 = number_of reading r.v2;
  linedef = number_of reading r.linedef;
}

abbrev pub ssector_under : Reading → SSector → SSector
ssector_under reading r = record r {
  count = number_of reading r.count;
  first = number_of reading r.first;
}
