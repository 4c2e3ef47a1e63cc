-- One step of areas: what happens to the piece in hand (ours).
use Rattle.std.specs.Prelude.{◌≡◌, ◌⊎◌, ◌-◌, ◌<◌, ◌≤◌, ℤ, pos, ◌≤ℤ◌, ◌<ℤ◌, IsSomeAnd, List}
use Rattle.std.specs.List.{slice_get}
use Rattle.le_rec.specs.declared.records.Node.{Node}
use Rattle.map_geo.specs.declared.sides.Side.{Side}
use Rattle.map_geo.specs.Partition.{partition_of}
use Rattle.map_geo.specs.Side.{other}
use Rattle.map_geo.specs.Rect.{Rect, IsWholeSide, point_count}
use Rattle.map_tree.specs.declared.pieces.Piece.{Piece}
use Rattle.map_tree.specs.declared.parts.Split.{Split}
use Rattle.map_tree.specs.declared.parts.Turn.{Turn}
use Rattle.map_tree.specs.declared.parts.Turn.TheVariants.{AtSsector, Down, Apart}
use Rattle.map_tree.specs.Child.{word_at}
use Rattle.map_tree.specs.Cuts.{IsMiddleRow, rows_to, rows_above, columns_to, columns_right}
use Rattle.map_tree.specs.Steps.{IsDown}

-- each row has its sides in the same columns: there is one row, or the partition is upright
abbrev pub ChangeTogether : Node → Rect → Type 0
ChangeTogether found rect = (rect.y0 ≡ rect.y1) ⊎ (found.dx ≡ pos 0)

-- the lowest half of the rows and the others, both where the piece is
pub record AreRowParts (piece : Piece) (parts : Split) : Type 0 where
  pub y : ℤ
  pub middle : IsMiddleRow piece.rect y
  pub first : parts.first ≡ record { rect = rows_to piece.rect y; word = piece.word }
  pub second : parts.second ≡ record { rect = rows_above piece.rect y; word = piece.word }

-- the columns with one side and those with the other, each at its side's child
pub record AreColumnParts (found : Node) (piece : Piece) (parts : Split) : Type 0 where
  pub s : Side
  pub c : ℤ
  pub from : piece.rect.x0 ≤ℤ c
  pub below : c <ℤ piece.rect.x1
  pub near : IsWholeSide (columns_to piece.rect c) (partition_of found) s
  pub far : IsWholeSide (columns_right piece.rect c) (partition_of found) (other s)
  pub first : parts.first ≡ record { rect = columns_to piece.rect c; word = word_at found s }
  pub second : parts.second ≡ record { rect = columns_right piece.rect c; word = word_at found (other s) }

-- it is cut by its rows only where these don't change in the same columns
abbrev pub AreParts : Node → Piece → Split → Type 0
AreParts found piece parts =
    ((¬ ChangeTogether found piece.rect) × AreRowParts piece parts) ⊎ AreColumnParts found piece parts

-- what happens to a piece at a node
abbrev pub IsTurnAt : Node → Piece → Turn → Type 0
IsTurnAt found piece (AtSsector t n) = ⊥
IsTurnAt found piece (Down next) = IsDown found piece next
IsTurnAt found piece (Apart parts) = AreParts found piece parts

-- what happens to a piece, by the place that it has reached
abbrev pub IsTurn : List Node → Piece → Turn → Type 0
IsTurn records piece (AtSsector t n) = (32768 ≤ piece.word) × (t ≡ piece.word - 32768) × (n ≡ point_count piece.rect) × (n ≤ 1048576)
IsTurn records piece (Down next) = (piece.word < 32768) × IsSomeAnd (slice_get records piece.word) (λ found. IsTurnAt found piece (Down next))
IsTurn records piece (Apart parts) = (piece.word < 32768) × IsSomeAnd (slice_get records piece.word) (λ found. IsTurnAt found piece (Apart parts))
