-- What areas have so far, and how one step keeps it.
use Rattle.std.proofs.Common.{ℕ, zero, suc, ◌+◌, ◌-◌, ◌^◌, ◌<◌, ◌≤◌, ℤ, ◌≤ℤ◌, ◌<ℤ◌, ◌≡◌, ◌⊎◌, inl, inr, List, [], ◌∷◌, length, get_or, set, Some, arith}
use Rattle.std.proofs.lemmas.List.Sums.{sum_by-set}
use Rattle.std.specs.Prelude.{IsSomeAnd}
use Rattle.std.specs.List.{sum, slice_get}
use Rattle.le_rec.specs.declared.records.Node.{Node}
use Rattle.map_geo.specs.declared.sides.Side.{Side}
use Rattle.map_geo.specs.Point.{Point}
use Rattle.map_geo.specs.Partition.{partition_of}
use Rattle.map_geo.specs.Side.{other}
use Rattle.map_geo.specs.Rect.{Rect, IsRect, IsWholeSide, rows_of, point_count}
use Rattle.map_level.specs.Level.{Level}
use Rattle.map_level.specs.SectorOf.{sector_of}
use Rattle.map_tree.specs.Areas.{AreCounted}
use Rattle.map_tree.specs.declared.parts.Split.{Split}
use Rattle.map_tree.specs.declared.pieces.Piece.{Piece}
use Rattle.map_tree.specs.Child.{node_count, place_of, word_at, root}
use Rattle.map_tree.specs.Cuts.{IsMiddleRow, rows_to, rows_above, columns_to, columns_right}
use Rattle.map_tree.specs.Parts.{AreParts}
use Rattle.map_tree.specs.Paths.{Place}
use Rattle.map_tree.specs.PlainCount.{TellsSectors, plain_count}
use Rattle.map_tree.specs.Steps.{IsDown}
use Rattle.map_tree.proofs.BoundLemmas.{half_high, half_low, double, not_one}
use Rattle.map_tree.proofs.CountLemmas.{area-columns, area-rows, plain-columns, plain-rows, rows_few}
use Rattle.map_tree.proofs.FewLemmas.{IsSized, area_from_rect}
use Rattle.map_tree.proofs.PieceLemmas.{total, Each, area, plain, IsGood, measure, measure_down, measure_apart, middle_from, middle_below, some_and, added_apart, added_leaf, good-start, counted-leaf, good-low, good-high, good-down, good-left, good-right, size_less, potential-columns, potential-down, potential-rows}

-- with j halvings of its rows still to come at most, a piece has room below so many
abbrev pub Fits : (Place → ℕ) → ℕ → ℕ → ℕ → Piece → Type 0
Fits size most k j p = (rows_of p.rect ≤ 2 ^ j) × (k + size (place_of p.word) + 1 + j ≤ most)

-- so has each of the pending pieces, whatever becomes of it
abbrev pub HaveRoom : (Place → ℕ) → ℕ → List Piece → Type 0
HaveRoom size most [] = Unit {0}
HaveRoom size most (p ∷ ps) = ((j : ℕ) × Fits size most (length ps) j p) × HaveRoom size most ps

pub record HeldAreas (level : Level) (size : Place → ℕ) (rect : Rect) (stack : List Piece) (counts : List ℕ) : Type 0 where
  pub good : Each (IsGood level) stack
  pub room : HaveRoom size (node_count level + 16) stack
  pub added : sum counts + total area stack ≡ point_count rect
  pub counted : (sector : Point → ℕ) → TellsSectors level sector → (s : ℕ) → get_or counts s 0 + total (plain sector s) stack ≡ plain_count sector s rect

add_none : (a b : ℕ) → a + 0 ≡ b → a ≡ b
add_none a b h = omega arith

few_at : (k m j most : ℕ) → k + m + 1 + j ≤ most → suc k ≤ most
few_at k m j most h = omega arith

-- no more are pending than there are nodes, and 16
pub few_pending : (level : Level) (size : Place → ℕ) (rect : Rect) (p : Piece) (rest : List Piece) (counts : List ℕ) → HeldAreas level size rect (p ∷ rest) counts → length (p ∷ rest) ≤ node_count level + 16
few_pending level size rect p rest counts held = few_at _ _ _ _ held.room.0.1.1

start_room : (k m n : ℕ) → m ≤ n → 0 + m + 1 + 15 ≤ n + 16
start_room k m n h = omega arith

less_room : (k m m' j most : ℕ) → m' < m → k + m + 1 + j ≤ most → k + m' + 1 + j ≤ most
less_room k m m' j most h g = omega arith

next_room : (k m m' j most : ℕ) → m' < m → k + m + 1 + j ≤ most → suc k + m' + 1 + j ≤ most
next_room k m m' j most h g = omega arith

half_room : (k m j most : ℕ) → k + m + 1 + suc j ≤ most → k + m + 1 + j ≤ most
half_room k m j most g = omega arith

half_next_room : (k m j most : ℕ) → k + m + 1 + suc j ≤ most → suc k + m + 1 + j ≤ most
half_next_room k m j most g = omega arith

module _ (level : Level) (size : Place → ℕ) (rect : Rect) (sized : IsSized level size) where
  pub HeldAreas-start : (p : Piece) (counts : List ℕ) → p.rect ≡ rect → place_of p.word ≡ root level → IsRect rect → sum counts ≡ 0 → ((s : ℕ) → get_or counts s 0 ≡ 0) → HeldAreas level size rect (p ∷ []) counts
  HeldAreas-start p counts same at_root valid none zeros = record {
    good = (good-start level size sized rect p same at_root valid, tt);
    room = ((15, (rw same (rows_few rect valid), rw at_root (start_room 0 _ _ sized.whole_size))), tt);
    added = rw same (omega arith);
    counted = λ sector tells s. let z = zeros s in rw same (omega arith);
  }

  pub done : (counts : List ℕ) → HeldAreas level size rect [] counts → AreCounted level rect counts
  done counts held = λ sector tells s. add_none _ _ (held.counted sector tells s)

  module _ (p : Piece) (rest : List Piece) (counts : List ℕ) (held : HeldAreas level size rect (p ∷ rest) counts) where
    -- a piece that has come to an ssector is counted
    pub turn-leaf : (k more : ℕ) → 32768 ≤ p.word → sector_of level (p.word - 32768) ≡ Some k → k < length counts → more ≡ area p → HeldAreas level size rect rest (set counts k (get_or counts k 0 + more))
    turn-leaf k more above sector_is within_counts more_is = rw more_is (record {
      good = held.good.1;
      room = held.room.1;
      added = added_leaf _ _ _ _ _ _ (sum_by-set (λ x. x) counts k (get_or counts k 0 + area p) 0 within_counts) held.added;
      counted = λ sector are s. counted-leaf level size sized p held.good.0 k above sector_is sector are counts s _ _ within_counts (held.counted sector are s);
    })

    module _ (found : Node) (below : p.word < 32768) (is : slice_get level.nodes.records p.word ≡ Some found) where
      smaller : (s : Side) → size (place_of (word_at found s)) < size (place_of p.word)
      smaller s = size_less level size sized p held.good.0 found below is s

      HeldAreas-down : (s : Side) → IsWholeSide p.rect (partition_of found) s → HeldAreas level size rect (record { rect = p.rect; word = word_at found s } ∷ rest) counts
      HeldAreas-down s on = record {
        good = (good-down level size sized p held.good.0 found below is s on, held.good.1);
        room = ((held.room.0.0, (held.room.0.1.0, less_room _ _ _ _ _ (smaller s) held.room.0.1.1)), held.room.1);
        added = held.added;
        counted = held.counted;
      }

      -- what both ways of parting keep
      parted : (first second : Piece) (j : ℕ) → IsGood level first → IsGood level second → Fits size (node_count level + 16) (length rest) j first → Fits size (node_count level + 16) (suc (length rest)) j second
          → area p ≡ area first + area second
          → ((sector : Point → ℕ) (s : ℕ) → plain sector s p ≡ plain sector s first + plain sector s second)
          → HeldAreas level size rect (second ∷ first ∷ rest) counts
      parted first second j good_first good_second fits_first fits_second parts counts_parts = record {
        good = (good_second, (good_first, held.good.1));
        room = ((j, fits_second), ((j, fits_first), held.room.1));
        added = added_apart (sum counts) _ _ _ _ _ parts held.added;
        counted = λ sector are s. added_apart (get_or counts s 0) _ _ _ _ _ (counts_parts sector s) (held.counted sector are s);
      }

      rows_parted : (j : ℕ) → Fits size (node_count level + 16) (length rest) j p → (y : ℤ) → IsMiddleRow p.rect y
          → HeldAreas level size rect (record { rect = rows_above p.rect y; word = p.word } ∷ (record { rect = rows_to p.rect y; word = p.word } ∷ rest)) counts
      rows_parted zero fits y middle = absurd (not_one p.rect y middle fits.0)
      rows_parted (suc j) fits y middle =
          let whole_area = area_from_rect p.rect held.good.0.valid in
          let few = double (rows_of p.rect) j fits.0 in
          let from = middle_from p.rect y middle in
          let less = middle_below p.rect y middle in
          parted _ _ j
          (good-low level size sized p held.good.0 y middle)
          (good-high level size sized p held.good.0 y middle)
          (half_low p.rect y (2 ^ j) whole_area middle few, half_room _ _ _ _ fits.1)
          (half_high p.rect y (2 ^ j) whole_area middle few, half_next_room _ _ _ _ fits.1)
          (area-rows p.rect y from less)
          (λ sector s. plain-rows sector s p.rect y from less)

      module _ (s : Side) (c : ℤ) (from : p.rect.x0 ≤ℤ c) (less : c <ℤ p.rect.x1) (near : IsWholeSide (columns_to p.rect c) (partition_of found) s) (far : IsWholeSide (columns_right p.rect c) (partition_of found) (other s)) where
        columns_parted : HeldAreas level size rect (record { rect = columns_right p.rect c; word = word_at found (other s) } ∷ (record { rect = columns_to p.rect c; word = word_at found s } ∷ rest)) counts
        columns_parted =
            let room = held.room.0 in
            parted _ _ room.0
            (good-left level size sized p held.good.0 found below is s c from less near)
            (good-right level size sized p held.good.0 found below is (other s) c from less far)
            (room.1.0, less_room _ _ _ _ _ (smaller s) room.1.1)
            (room.1.0, next_room _ _ _ _ _ (smaller (other s)) room.1.1)
            (area-columns p.rect c from less)
            (λ sector s'. plain-columns sector s' p.rect c from less)

        less-columns : measure size (record { rect = columns_right p.rect c; word = word_at found (other s) } ∷ (record { rect = columns_to p.rect c; word = word_at found s } ∷ rest)) < measure size (p ∷ rest)
        less-columns = measure_apart _ _ _ 1 _ _ (omega arith) (potential-columns level size sized p held.good.0 found below is s c)

      apart_at : (parts : Split) → AreParts found p parts → HeldAreas level size rect (parts.second ∷ (parts.first ∷ rest)) counts
      apart_at parts (inl (apart, r)) = rw (r.first, r.second) (rows_parted held.room.0.0 held.room.0.1 r.y r.middle)
      apart_at parts (inr r) = rw (r.first, r.second) (columns_parted r.s r.c r.from r.below r.near r.far)

      fewer_at : (parts : Split) → AreParts found p parts → measure size (parts.second ∷ (parts.first ∷ rest)) < measure size (p ∷ rest)
      fewer_at parts (inl (apart, r)) = rw (r.first, r.second) (measure_apart _ _ _ 1 _ _ (omega arith) (potential-rows level size sized p held.good.0 found below is r.y r.middle))
      fewer_at parts (inr r) = rw (r.first, r.second) (less-columns r.s r.c r.from r.below r.near r.far)

    pub turn-down : (next : Piece) → (p.word < 32768) × IsSomeAnd (slice_get level.nodes.records p.word) (λ found. IsDown found p next) → HeldAreas level size rect (next ∷ rest) counts
    turn-down next h =
        let at = some_and (slice_get level.nodes.records p.word) (λ found. IsDown found p next) h.1 in
        rw at.2.next_is (HeldAreas-down at.0 h.0 at.1 at.2.s at.2.on)

    pub fewer-down : (next : Piece) → (p.word < 32768) × IsSomeAnd (slice_get level.nodes.records p.word) (λ found. IsDown found p next) → measure size (next ∷ rest) < measure size (p ∷ rest)
    fewer-down next h =
        let at = some_and (slice_get level.nodes.records p.word) (λ found. IsDown found p next) h.1 in
        rw at.2.next_is (measure_down _ _ _ _ (potential-down level size sized p held.good.0 at.0 h.0 at.1 at.2.s))

    pub turn-apart : (parts : Split) → (p.word < 32768) × IsSomeAnd (slice_get level.nodes.records p.word) (λ found. AreParts found p parts) → HeldAreas level size rect (parts.second ∷ (parts.first ∷ rest)) counts
    turn-apart parts h =
        let at = some_and (slice_get level.nodes.records p.word) (λ found. AreParts found p parts) h.1 in
        apart_at at.0 h.0 at.1 parts at.2

    pub fewer-apart : (parts : Split) → (p.word < 32768) × IsSomeAnd (slice_get level.nodes.records p.word) (λ found. AreParts found p parts) → measure size (parts.second ∷ (parts.first ∷ rest)) < measure size (p ∷ rest)
    fewer-apart parts h =
        let at = some_and (slice_get level.nodes.records p.word) (λ found. AreParts found p parts) h.1 in
        fewer_at at.0 h.0 at.1 parts at.2
