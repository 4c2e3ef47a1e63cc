-- Why a point has no block, of a lump and of its map.
use Rattle.std.proofs.Common.{◌≡◌, ℕ, ◌≤◌, List, Result, Ok, Err, length}
use Rattle.std.specs.Prelude.{IfErr}
use Rattle.map_geo.specs.Point.{Point, point_at}
use Rattle.map_level.specs.declared.reading.Reading.{Reading}
use Rattle.map_tables.specs.BlockMap.{BlockMap, block_map_of}
use Rattle.wadlook_c.specs.Blocks.{IsAsked, RefusesBlock, RefusesBlockOf}
use Rattle.wadlook_c.specs.declared.block.Unlisted.{Unlisted}
use Rattle.wadlook_c.specs.declared.block.Unlisted.TheVariants as why
use Rattle.wadlook_c.specs.declared.points.WadlookPoint.{WadlookPoint}

-- a point of the map that has none has none in the lump
refused_for : (reading : Reading) (bytes : List ℕ) (asked : WadlookPoint) (map : BlockMap) (point : Point) (reason : Unlisted)
    → map ≡ block_map_of reading bytes → point ≡ point_at asked.x asked.y → 8 ≤ length bytes → IsAsked asked → RefusesBlockOf map point reason
    → RefusesBlock reading bytes asked reason
refused_for reading bytes asked map point why.NoBlockMap of here long within refused = absurd refused.3
refused_for reading bytes asked map point why.OutOfRange of here long within refused = absurd refused.3
refused_for reading bytes asked map point why.NoBlock of here long within refused = (long, within, rw (of, here) at refused)
refused_for reading bytes asked map point why.OffsetOutside of here long within refused = (long, within, rw (of, here) at refused)
refused_for reading bytes asked map point why.NoEnd of here long within refused = (long, within, rw (of, here) at refused)

pub refused_in : {T : Type 0} (reading : Reading) (bytes : List ℕ) (asked : WadlookPoint) (map : BlockMap) (point : Point) (result : Result T Unlisted)
    → map ≡ block_map_of reading bytes → point ≡ point_at asked.x asked.y → 8 ≤ length bytes → IsAsked asked
    → IfErr result (RefusesBlockOf map point) → IfErr result (RefusesBlock reading bytes asked)
refused_in reading bytes asked map point (Ok value) of here long within refused = tt
refused_in reading bytes asked map point (Err reason) of here long within refused = refused_for reading bytes asked map point reason of here long within refused
