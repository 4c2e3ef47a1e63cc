-- A level's BLOCKMAP (P_LoadBlockMap of p_setup.c).
use Rattle.std.specs.Prelude.{ℕ, ◌+◌, ◌*◌, ◌<◌, ℤ, pos, negsuc, ◌+ℤ◌, ◌≤ℤ◌, ◌<ℤ◌, List, slice_index_or}
use Rattle.map_geo.specs.Point.{Point}
use Rattle.map_level.specs.declared.reading.Reading.{Reading}
use Rattle.map_tables.specs.Words.{Words, numbers_of, words_under}

-- the origin, the number of blocks in a row and in a column, and all words under a reading
pub record BlockMap : Type 0 where
  pub x : ℤ
  pub y : ℤ
  pub width : ℤ
  pub height : ℤ
  pub words : Words

-- signed word k of a lump
abbrev pub head : List ℕ → ℕ → ℤ
head bytes k = slice_index_or (numbers_of bytes) k (pos 0)

-- the blockmap of at least four words: the first four are signed under both readings
abbrev pub block_map_of : Reading → List ℕ → BlockMap
block_map_of reading bytes = record {
  x = head bytes 0;
  y = head bytes 1;
  width = head bytes 2;
  height = head bytes 3;
  words = words_under reading bytes;
}

-- a width or a height as a number of blocks: none where it is negative
abbrev pub count_of : ℤ → ℕ
count_of (pos n) = n
count_of (negsuc n) = 0

-- how many blocks there are
abbrev pub block_count : BlockMap → ℕ
block_count map = count_of map.width * count_of map.height

-- the number of the block in column bx and row by
abbrev pub block_number : BlockMap → ℕ → ℕ → ℕ
block_number map bx by = by * count_of map.width + bx

-- k is the floor of (z - origin)/128
pub record IsBlockAlong (origin z : ℤ) (k : ℕ) : Type 0 where
  pub first : (origin +ℤ pos (128 * k)) ≤ℤ z
  pub last : z <ℤ (origin +ℤ pos (128 * k + 128))

-- the point is in the block of column bx and row by
pub record IsBlockOf (map : BlockMap) (point : Point) (bx by : ℕ) : Type 0 where
  pub column : IsBlockAlong map.x point.x bx
  pub row : IsBlockAlong map.y point.y by
  pub in_width : bx < count_of map.width
  pub in_height : by < count_of map.height
