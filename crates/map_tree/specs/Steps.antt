-- One step of a census: what happens to the piece in hand (ours).
use Rattle.std.specs.Prelude.{◌≡◌, ◌⊎◌, ℕ, ◌+◌, ◌-◌, ◌<◌, ◌≤◌, ℤ, IsSomeAnd, List, slice_index}
use Rattle.std.specs.List.{slice_get, sum}
use Rattle.le_rec.specs.declared.records.Node.{Node}
use Rattle.map_geo.specs.declared.sides.Side.{Side}
use Rattle.map_geo.specs.Point.{Point, IsInRange, point_at}
use Rattle.map_geo.specs.Partition.{partition_of}
use Rattle.map_geo.specs.Side.{side_of, other}
use Rattle.map_geo.specs.Rect.{Rect, IsWholeSide, point_count}
use Rattle.map_level.specs.Level.{Level}
use Rattle.map_tree.specs.declared.pieces.Piece.{Piece}
use Rattle.map_tree.specs.declared.pieces.Halves.{Halves}
use Rattle.map_tree.specs.declared.pieces.Step.{Step}
use Rattle.map_tree.specs.declared.pieces.Step.TheVariants.{AtSsector, Down, Apart}
use Rattle.map_tree.specs.Child.{word_at, root}
use Rattle.map_tree.specs.Cuts.{IsCut, IsLast, Halvings, IsMiddleRow, rows_to, rows_above, columns_to, columns_right}
use Rattle.map_tree.specs.PlainCount.{TellsSectors, plain_count}
use Rattle.map_tree.specs.Work.{Work}

-- the word names an ssector, or a node that is there and whose origin is in range
abbrev pub IsWord : List Node → ℕ → Type 0
IsWord records word = word < 32768 → IsSomeAnd (slice_get records word) (λ found. IsInRange found.x × IsInRange found.y)

-- the lowest half of the rows and the others, both where the piece is
pub record IsRowsCut (piece : Piece) (halves : Halves) : Type 0 where
  pub y : ℤ
  pub middle : IsMiddleRow piece.rect y
  pub first : halves.first ≡ record { rect = rows_to piece.rect y; word = piece.word }
  pub second : halves.second ≡ record { rect = rows_above piece.rect y; word = piece.word }
  pub tests : halves.tests ≡ 1

-- a row in two where its side changes, each part at its side's child
pub record IsRowCut (found : Node) (piece : Piece) (halves : Halves) : Type 0 where
  pub s : Side
  pub c : ℤ
  pub h : ℕ
  pub left : side_of (partition_of found) (point_at piece.rect.x0 piece.rect.y0) ≡ s
  pub last : IsLast (partition_of found) piece.rect.y0 s piece.rect.x0 piece.rect.x1 c
  pub halvings : Halvings (partition_of found) piece.rect.y0 s piece.rect.x0 piece.rect.x1 h
  pub first : halves.first ≡ record { rect = columns_to piece.rect c; word = word_at found s }
  pub second : halves.second ≡ record { rect = columns_right piece.rect c; word = word_at found (other s) }
  pub tests : halves.tests ≡ 2 + h

-- the whole piece goes to the child of the side that it has
pub record IsDown (found : Node) (piece next : Piece) : Type 0 where
  pub s : Side
  pub on : IsWholeSide piece.rect (partition_of found) s
  pub next_is : next ≡ record { rect = piece.rect; word = word_at found s }

-- the piece has both sides and is cut, into rows where it has more than one
pub record IsApart (found : Node) (piece : Piece) (halves : Halves) : Type 0 where
  pub cut : IsCut piece.rect (partition_of found)
  pub way : IsRowsCut piece halves ⊎ ((piece.rect.y0 ≡ piece.rect.y1) × IsRowCut found piece halves)

-- what happens to a piece at a node
abbrev pub IsStepAt : Node → Piece → Step → Type 0
IsStepAt found piece (AtSsector t n) = ⊥
IsStepAt found piece (Down next) = IsDown found piece next
IsStepAt found piece (Apart halves) = IsApart found piece halves

-- what happens to a piece, by the place that it has reached
abbrev pub IsStep : List Node → Piece → Step → Type 0
IsStep records piece (AtSsector t n) = (32768 ≤ piece.word) × (t ≡ piece.word - 32768) × (n ≡ point_count piece.rect) × (n ≤ 1048576)
IsStep records piece (Down next) = (piece.word < 32768) × IsSomeAnd (slice_get records piece.word) (λ found. IsStepAt found piece (Down next))
IsStep records piece (Apart halves) = (piece.word < 32768) × IsSomeAnd (slice_get records piece.word) (λ found. IsStepAt found piece (Apart halves))

-- how many points of the rectangle each sector has, by its number, and the work that it took
pub record IsTally (level : Level) (rect : Rect) (counts : List ℕ) (tests pending : ℕ) : Type 0 where
  pub counted : (sector : Point → ℕ) → TellsSectors level sector → (s : ℕ) → slice_index counts s ≡ plain_count sector s rect
  pub total : sum counts ≡ point_count rect
  pub work : Work level rect (root level) tests pending
