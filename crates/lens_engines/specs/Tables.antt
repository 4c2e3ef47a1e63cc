-- How many records the eight tables of a level have, and how many bytes its last two lumps (ours).
use Rattle.std.specs.Prelude.{length}
use Rattle.map_level.specs.Level.{Level}
use Rattle.lens_engines.specs.declared.tables.Tables.{Tables}

abbrev pub tables_of : Level → Tables
tables_of level = record {
  things = length level.things.records;
  linedefs = length level.linedefs.records;
  sidedefs = length level.sidedefs.records;
  vertexes = length level.vertexes.records;
  segs = length level.segs.records;
  ssectors = length level.ssectors.records;
  nodes = length level.nodes.records;
  sectors = length level.sectors.records;
  reject = length level.reject;
  blockmap = length level.blockmap;
}
