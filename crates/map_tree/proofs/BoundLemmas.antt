-- Rect over the definition of work alone.
use Rattle.std.proofs.Common.{ℕ, zero, suc, ◌+◌, ◌*◌, ◌^◌, ◌<◌, ◌≤◌, ◌-◌, ℤ, pos, ◌+ℤ◌, ◌≤ℤ◌, ◌<ℤ◌, ◌≡◌, sym, ap, ◌∙◌, inl, inr, Option, Some, None, arith}
use Rattle.std.proofs.Math.Nat.{pow-suc, mul-le-mul_left, one-le-mul}
use Rattle.std.specs.Option.{option_map}
use Rattle.std.specs.List.{slice_get}
use Rattle.std.proofs.lemmas.Option.{slice_get_within}
use Rattle.le_rec.specs.declared.records.Node.{Node}
use Rattle.std.proofs.lemmas.Int.{ints}
use Rattle.map_geo.specs.declared.sides.Side.{Side}
use Rattle.map_geo.specs.declared.sides.Side.TheVariants.{Front, Back}
use Rattle.map_geo.specs.Partition.{Partition, partition_of}
use Rattle.map_geo.specs.Rect.{Rect, rows_of}
use Rattle.map_level.specs.Level.{Level}
use Rattle.map_tree.specs.Paths.{Place, node}
use Rattle.map_tree.specs.Child.{node_count, child}
use Rattle.map_tree.proofs.Sizes.{AreSizes}
use Rattle.map_tree.specs.Cuts.{Halvings, beside, in_right, in_left, IsMiddle, IsMiddleRow, rows_to, rows_above, columns_to, columns_right}
use Rattle.map_geo.specs.Side.{other}
use Rattle.map_tree.specs.Work.{partition_at, Work, at_ssector, to_child, by_rows, in_row}
use Rattle.map_tree.proofs.ReachLemmas.{none_or_some}

-- the larger part of a halved way
middle_right : (l e m : ℤ) (d : ℕ) → IsMiddle m l e → e ≤ℤ (l +ℤ pos (2 * d)) → e ≤ℤ (m +ℤ pos d)
middle_right l e m d middle far = omega (arith, ints, middle.upper)

middle_left : (l e m : ℤ) (d : ℕ) → IsMiddle m l e → e ≤ℤ (l +ℤ pos (2 * d)) → m ≤ℤ (l +ℤ pos d)
middle_left l e m d middle far = omega (arith, ints, middle.lower)

too_near : (l e : ℤ) → (l +ℤ pos 1) <ℤ e → e ≤ℤ (l +ℤ pos 1) → ⊥
too_near l e more far = omega (arith, ints)

twice : (l e : ℤ) (j : ℕ) → e ≤ℤ (l +ℤ pos (2 ^ suc j)) → e ≤ℤ (l +ℤ pos (2 * 2 ^ j))
twice l e j far = omega (arith, ints, pow-suc 2 j)

-- at most j halvings between two ends that are at most 2 ^ j apart
pub Halvings-most : (line : Partition) (y : ℤ) (s : Side) (l e : ℤ) (b j : ℕ) → Halvings line y s l e b → e ≤ℤ (l +ℤ pos (2 ^ j)) → b ≤ j
Halvings-most line y s _ _ _ j (beside l e same) far = omega arith
Halvings-most line y s _ _ _ zero (in_right l e m b more middle has rest) far = absurd (too_near l e more far)
Halvings-most line y s _ _ _ (suc j) (in_right l e m b more middle has rest) far =
    let h = Halvings-most line y s m e b j rest (middle_right l e m (2 ^ j) middle (twice l e j far)) in omega arith
Halvings-most line y s _ _ _ zero (in_left l e m b more middle has rest) far = absurd (too_near l e more far)
Halvings-most line y s _ _ _ (suc j) (in_left l e m b more middle has rest) far =
    let h = Halvings-most line y s l m b j rest (middle_left l e m (2 ^ j) middle (twice l e j far)) in omega arith

-- the most tests that k rows at a place with m nodes at or below it can take
abbrev pub most_tests : ℕ → ℕ → ℕ
most_tests k m = 18 * k * m - 1

pub most_tests-whole : (k m m' w : ℕ) → 0 < k → m' < m → w ≤ most_tests k m' → suc w ≤ most_tests k m
most_tests-whole k m m' w some less h = omega (arith, mul-le-mul_left k less)

pub most_tests-rows : (k1 k2 m w1 w2 : ℕ) → 0 < m → 0 < k1 → 0 < k2 → w1 ≤ most_tests k1 m → w2 ≤ most_tests k2 m → w1 + w2 + 1 ≤ most_tests (k1 + k2) m
most_tests-rows k1 k2 m w1 w2 a b c h1 h2 = omega (arith, one-le-mul b a, one-le-mul c a)

pub most_tests-row : (m1 m2 w1 w2 h : ℕ) → h ≤ 15 → w1 ≤ most_tests 1 m1 → w2 ≤ most_tests 1 m2 → w1 + w2 + 1 + (1 + h) ≤ most_tests 1 (suc (m1 + m2))
most_tests-row m1 m2 w1 w2 h a b c = omega arith

-- a rectangle that isn't empty and at most 2 ^ 15 columns wide
pub record IsArea (b : Rect) : Type 0 where
  pub columns : b.x0 ≤ℤ b.x1
  pub rows : b.y0 ≤ℤ b.y1
  pub near : b.x1 ≤ℤ (b.x0 +ℤ pos 32768)

pub IsArea-rows_to : (b : Rect) (y : ℤ) → IsArea b → IsMiddleRow b y → IsArea (rows_to b y)
IsArea-rows_to b y area middle =
    record { columns = area.columns; rows = omega (arith, ints, middle.more, middle.middle.upper); near = area.near }

pub IsArea-rows_above : (b : Rect) (y : ℤ) → IsArea b → IsMiddleRow b y → IsArea (rows_above b y)
IsArea-rows_above b y area middle =
    record { columns = area.columns; rows = omega (arith, ints, middle.more, middle.middle.lower); near = area.near }

pub IsArea-columns_to : (b : Rect) (c : ℤ) → IsArea b → b.x0 ≤ℤ c → c <ℤ b.x1 → IsArea (columns_to b c)
IsArea-columns_to b c area from below =
    let near = area.near in record { columns = from; rows = area.rows; near = omega (arith, ints) }

pub IsArea-columns_right : (b : Rect) (c : ℤ) → IsArea b → b.x0 ≤ℤ c → c <ℤ b.x1 → IsArea (columns_right b c)
IsArea-columns_right b c area from below =
    let near = area.near in record { columns = omega (arith, ints); rows = area.rows; near = omega (arith, ints) }

pub rows_of-rows : (b : Rect) (y : ℤ) → IsArea b → IsMiddleRow b y → rows_of b ≡ rows_of (rows_to b y) + rows_of (rows_above b y)
rows_of-rows b y area middle = omega (arith, ints, middle.more, middle.middle.lower, middle.middle.upper)

pub rows_of-pos : (b : Rect) → IsArea b → 0 < rows_of b
rows_of-pos b area = omega (arith, ints, area.rows)

pub rows_of-one : (b : Rect) → b.y0 ≡ b.y1 → rows_of b ≡ 1
rows_of-one b e = omega (arith, ints)

pub near_halvings : (l e : ℤ) → e ≤ℤ (l +ℤ pos 32768) → e ≤ℤ (l +ℤ pos (2 ^ 15))
near_halvings l e h = h

pub half_low : (b : Rect) (y : ℤ) (d : ℕ) → IsArea b → IsMiddleRow b y → rows_of b ≤ 2 * d → rows_of (rows_to b y) ≤ d
half_low b y d area middle h = omega (arith, ints, middle.more, middle.middle.lower, middle.middle.upper)

pub half_high : (b : Rect) (y : ℤ) (d : ℕ) → IsArea b → IsMiddleRow b y → rows_of b ≤ 2 * d → rows_of (rows_above b y) ≤ d
half_high b y d area middle h = omega (arith, ints, middle.more, middle.middle.lower, middle.middle.upper)

pub not_one : (b : Rect) (y : ℤ) → IsMiddleRow b y → rows_of b ≤ 1 → ⊥
not_one b y middle h = omega (arith, ints, middle.more)

pub double : (k j : ℕ) → k ≤ 2 ^ suc j → k ≤ 2 * 2 ^ j
double k j h = omega (arith, pow-suc 2 j)

-- a node with a partition is there
pub node_in : (level : Level) (n : ℕ) (line : Partition) → partition_at level n ≡ Some line → n < node_count level
node_in level n line e = elim (none_or_some (slice_get level.nodes.records n)) [
  | inl none ↦
      let f : None ≡ Some line = sym (ap (λ (o : Option Node). option_map partition_of o) none) ∙ e in
      cc
  | inr some ↦ slice_get_within level.nodes.records n some.0 some.1
]

-- a node's size by its children at either side
pub size-sides : (level : Level) (size : Place → ℕ) (n : ℕ) (s : Side) (p q : Place) → AreSizes level size → child level n s ≡ Some p → child level n (other s) ≡ Some q → size (node n) ≡ suc (size p + size q)
size-sides level size n Front p q sizes e f = sizes.at_node n p q e f
size-sides level size n Back p q sizes e f = omega (arith, sizes.at_node n q p f e)

module _ (level : Level) (size : Place → ℕ) (sizes : AreSizes level size) where
  pub tests-most : (b : Rect) (place : Place) (w p : ℕ) → Work level b place w p → IsArea b → w ≤ most_tests (rows_of b) (size place)
  tests-most _ _ _ _ (at_ssector b t) area = omega arith
  tests-most _ _ _ _ (to_child b n line s q w p at_node on is_child rest) area =
      most_tests-whole (rows_of b) (size (node n)) (size q) w (rows_of-pos b area) (sizes.at_child n s q is_child) (tests-most b q w p rest area)
  tests-most _ _ _ _ (by_rows b n line y w1 p1 w2 p2 at_node cut middle low high) area =
      let low_area = IsArea-rows_to b y area middle in
      let high_area = IsArea-rows_above b y area middle in
      let h1 = tests-most (rows_to b y) (node n) w1 p1 low low_area in
      let h2 = tests-most (rows_above b y) (node n) w2 p2 high high_area in
      rw (rows_of-rows b y area middle) (most_tests-rows (rows_of (rows_to b y)) (rows_of (rows_above b y)) (size (node n)) w1 w2 (sizes.some n (node_in level n line at_node)) (rows_of-pos _ low_area) (rows_of-pos _ high_area) h1 h2)
  tests-most _ _ _ _ (in_row b n line s c q r h w1 p1 w2 p2 at_node cut flat is_side last halvings is_child is_other first second) area =
      let one = rows_of-one b flat in
      let h1 = rw one at (tests-most (columns_to b c) q w1 p1 first (IsArea-columns_to b c area last.from last.below)) in
      let h2 = rw one at (tests-most (columns_right b c) r w2 p2 second (IsArea-columns_right b c area last.from last.below)) in
      rw (one, size-sides level size n s q r sizes is_child is_other) (most_tests-row (size q) (size r) w1 w2 h (Halvings-most line b.y0 s b.x0 b.x1 h 15 halvings (near_halvings b.x0 b.x1 area.near)) h1 h2)

  pub depth-most : (b : Rect) (place : Place) (w p j : ℕ) → Work level b place w p → IsArea b → rows_of b ≤ 2 ^ j → p ≤ size place + 1 + j
  depth-most _ _ _ _ j (at_ssector b t) area few = omega arith
  depth-most _ _ _ _ j (to_child b n line s q w p at_node on is_child rest) area few =
      omega (arith, sizes.at_child n s q is_child, depth-most b q w p j rest area few)
  depth-most _ _ _ _ zero (by_rows b n line y w1 p1 w2 p2 at_node cut middle low high) area few = absurd (not_one b y middle few)
  depth-most _ _ _ _ (suc j) (by_rows b n line y w1 p1 w2 p2 at_node cut middle low high) area few =
      let less = double (rows_of b) j few in
      omega (
        arith,
        depth-most (rows_to b y) (node n) w1 p1 j low (IsArea-rows_to b y area middle) (half_low b y (2 ^ j) area middle less),
        depth-most (rows_above b y) (node n) w2 p2 j high (IsArea-rows_above b y area middle) (half_high b y (2 ^ j) area middle less),
      )
  depth-most _ _ _ _ j (in_row b n line s c q r h w1 p1 w2 p2 at_node cut flat is_side last halvings is_child is_other first second) area few =
      omega (
        arith,
        size-sides level size n s q r sizes is_child is_other,
        depth-most (columns_to b c) q w1 p1 j first (IsArea-columns_to b c area last.from last.below) few,
        depth-most (columns_right b c) r w2 p2 j second (IsArea-columns_right b c area last.from last.below) few,
      )
