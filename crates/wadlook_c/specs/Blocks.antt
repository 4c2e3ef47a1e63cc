-- What is told of a block (ours).
use Rattle.std.specs.Prelude.{ℕ, ◌+◌, ◌<◌, ◌≤◌, List, length, take, drop}
use Rattle.map_geo.specs.Point.{IsInRange, Point, point_at}
use Rattle.map_level.specs.declared.reading.Reading.{Reading}
use Rattle.map_tables.specs.BlockMap.{BlockMap, IsBlockOf, block_map_of, block_number}
use Rattle.map_tables.specs.Words.{HasNoEnd, HasOffset, IsBlockList, IsOffsetOutside}
use Rattle.wadlook_c.specs.declared.block.Unlisted.{Unlisted}
use Rattle.wadlook_c.specs.declared.block.Unlisted.TheVariants as why
use Rattle.wadlook_c.specs.declared.block.WadlookBlock.{WadlookBlock}
use Rattle.wadlook_c.specs.declared.points.WadlookPoint.{WadlookPoint}

-- these words of BLOCKMAP are a list, and it is the list of block n
pub record TellsList (map : BlockMap) (n first count : ℕ) : Type 0 where
  pub offset : HasOffset map.words n first
  pub list : IsBlockList map.words n (take count (drop first map.words.numbers))
  pub inside : first + count ≤ length map.words.numbers

-- both coordinates are points'
abbrev pub IsAsked : WadlookPoint → Type 0
IsAsked asked = IsInRange asked.x × IsInRange asked.y

-- the block holds the point, and its list stands at the words that are told
pub record TellsBlock (map : BlockMap) (point : Point) (told : WadlookBlock) : Type 0 where
  pub block : IsBlockOf map point told.column told.row
  pub list : TellsList map (block_number map told.column told.row) told.first told.count

-- why a block has no list
abbrev pub RefusesList : BlockMap → ℕ → Unlisted → Type 0
RefusesList map n why.OffsetOutside = IsOffsetOutside map.words n
RefusesList map n why.NoEnd = HasNoEnd map.words n
RefusesList map n _ = ⊥

-- why a point of a map has none: no block holds it, or its block has no list
abbrev pub RefusesBlockOf : BlockMap → Point → Unlisted → Type 0
RefusesBlockOf map point why.NoBlock = (bx by : ℕ) → ¬ IsBlockOf map point bx by
RefusesBlockOf map point reason =
    (bx : ℕ) × (by : ℕ) × IsBlockOf map point bx by × RefusesList map (block_number map bx by) reason

-- why there is none: there is no map, the point is out of range, or it has none
abbrev pub RefusesBlock : Reading → List ℕ → WadlookPoint → Unlisted → Type 0
RefusesBlock reading bytes asked why.NoBlockMap = length bytes < 8
RefusesBlock reading bytes asked why.OutOfRange = (8 ≤ length bytes) × (¬ IsAsked asked)
RefusesBlock reading bytes asked reason =
    (8 ≤ length bytes) × IsAsked asked × RefusesBlockOf (block_map_of reading bytes) (point_at asked.x asked.y) reason

-- the number of why there is none
abbrev pub unlisted_number : Unlisted → ℕ
unlisted_number why.NoBlockMap = 19
unlisted_number why.OutOfRange = 18
unlisted_number why.NoBlock = 20
unlisted_number why.OffsetOutside = 21
unlisted_number why.NoEnd = 22
