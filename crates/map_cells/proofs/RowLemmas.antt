-- The points of a row between two of its columns.
use Rattle.std.proofs.Common.{◌≡◌, ◌∙◌, sym, ap, ℕ, ◌+◌, ◌*◌, ◌<◌, ◌≤◌, ℤ, pos, ◌+ℤ◌, ◌-ℤ◌, ◌*ℤ◌, ◌≤ℤ◌, ◌<ℤ◌, Bool, true, false, FitsSigned, to_z, of_z, w16, w32, refl, arith}
use Rattle.std.proofs.Math.Nat.{mul-le-mul_right}
use Rattle.std.proofs.lemmas.Int.{ints, by_lt_z, to_z-of_z}
use Rattle.std.specs.Prelude.{int_lt}
use Rattle.map_geo.proofs.AlongLemmas.{sides_along_rows}
use Rattle.map_geo.proofs.ProductLemmas.{mul-lt_negative, mul-lt_positive}
use Rattle.map_geo.specs.Partition.{Partition}
use Rattle.map_geo.specs.Point.{IsInRange}
use Rattle.map_geo.specs.Side.{side_of}
use Rattle.map_geo.specs.declared.sides.Side.{Side}
use Rattle.map_cells.specs.Grid.{Grid, columns_of, rows_of, cell_x, cell_y}
use Rattle.map_cells.specs.Row.{IsRowInRange, Row, point_of, row_at}
use Rattle.map_cells.specs.Shown.{cross}
use Rattle.map_cells.specs.declared.ends.Ends.{Ends}

-- where the cells begin and how far a middle lies behind it, added as the code reads both: the sum fits, and is the point's coordinate
module _ (start begin from middle : ℤ) (far : ℕ) (fits : FitsSigned w16 begin) (begin_is : begin ≡ start)
    (read : from ≡ to_z w16 (of_z w16 begin)) (middle_is : middle ≡ pos far) (few : middle ≤ℤ pos 67108864) where
  from_is : from ≡ begin
  from_is = read ∙ to_z-of_z w16 begin fits

  from_fits : FitsSigned w32 from
  from_fits = rw from_is (omega (arith, ints, fits))

  middle_fits : FitsSigned w32 middle
  middle_fits = omega (arith, ints, middle_is, few)

  pub point_fits : FitsSigned w32 (to_z w32 (of_z w32 from) +ℤ to_z w32 (of_z w32 middle))
  point_fits = let f = from_fits in let m = middle_fits in simp to_z-of_z (rw from_is (omega (arith, ints, fits, middle_is, few)))

  pub point_read : to_z w32 (of_z w32 (to_z w32 (of_z w32 from) +ℤ to_z w32 (of_z w32 middle))) ≡ start +ℤ pos far
  point_read = let f = from_fits in let m = middle_fits in to_z-of_z w32 _ point_fits ∙ simp to_z-of_z (rw (from_is, begin_is, middle_is) refl)

-- a coordinate in range is what the code reads of it
pub read_in_range : (z at : ℤ) → z ≡ at → IsInRange at → to_z w32 (of_z w32 z) ≡ at
read_in_range z at e h = let fits : FitsSigned w32 at = omega (arith, ints, h.least, h.greatest) in rw e (to_z-of_z w32 at fits)

-- columns come one after another
pub cell_x-ordered : (grid : Grid) (i k : ℕ) → i ≤ k → cell_x grid i ≤ℤ cell_x grid k
cell_x-ordered grid i k h =
    let steps : i * grid.size ≤ k * grid.size = mul-le-mul_right grid.size h in
    omega (arith, ints, steps)

-- between two columns that are in range all are
pub row_in_range : (grid : Grid) (j last : ℕ) → j < rows_of grid → columns_of grid ≡ last + 1 → IsInRange (cell_x grid 0)
    → IsInRange (cell_x grid last) → IsInRange (cell_y grid j) → IsRowInRange (row_at grid j)
row_in_range grid j last there wide left right height = record {
  there = there;
  columns = λ i within.
      let after = cell_x-ordered grid 0 i (omega arith) in
      let before = cell_x-ordered grid i last (omega (arith, within, wide)) in
      record { least = omega (arith, ints, left.least, after); greatest = omega (arith, ints, right.greatest, before) };
  height = height;
}

-- between two columns of one side all have it
pub side_between : (partition : Partition) (row : Row) (side : Side) (a i b : ℕ) → a ≤ i → i ≤ b
    → side_of partition (point_of row a) ≡ side → side_of partition (point_of row b) ≡ side → side_of partition (point_of row i) ≡ side
side_between partition row side a i b h k e f =
    sides_along_rows partition (cell_y row.grid row.j) (cell_x row.grid a) (cell_x row.grid i) (cell_x row.grid b)
    (cell_x-ordered row.grid a i h) (cell_x-ordered row.grid i b k) (e ∙ sym f)
    ∙ e

-- products with a factor that isn't negative keep their order, and with one that isn't positive they turn it
mul-le_above : (k a b : ℤ) → pos 0 <ℤ k → a ≤ℤ b → (k *ℤ a) ≤ℤ (k *ℤ b)
mul-le_above k a b above h = by_lt_z a b
    (λ less. let more = mul-lt_positive k a b above less in omega (arith, ints, more))
    (λ past. let same : a ≡ b = omega (arith, ints, h, past) in let e : k *ℤ a ≡ k *ℤ b = ap (λ z. k *ℤ z) same in omega (arith, ints, e))

mul-le_below : (k a b : ℤ) → k <ℤ pos 0 → a ≤ℤ b → (k *ℤ b) ≤ℤ (k *ℤ a)
mul-le_below k a b below h = by_lt_z a b
    (λ less. let more = mul-lt_negative k a b below less in omega (arith, ints, more))
    (λ past. let same : a ≡ b = omega (arith, ints, h, past) in let e : k *ℤ a ≡ k *ℤ b = ap (λ z. k *ℤ z) same in omega (arith, ints, e))

product_between : (k a i b : ℤ) → a ≤ℤ i → i ≤ℤ b → (least : ℤ) → least ≤ℤ (k *ℤ a) → least ≤ℤ (k *ℤ b) → least ≤ℤ (k *ℤ i)
product_between k a i b h g least e f = by_lt_z k (pos 0)
    (λ below. let more = mul-le_below k i b below g in omega (arith, ints, more, f))
    (λ above. by_lt_z (pos 0) k
    (λ strict. let more = mul-le_above k a i strict h in omega (arith, ints, more, e))
    (λ none.
    let zero_is : k ≡ pos 0 = omega (arith, ints, above, none) in
    let one : k *ℤ i ≡ pos 0 *ℤ i = ap (λ z. z *ℤ i) zero_is in
    let other : k *ℤ a ≡ pos 0 *ℤ a = ap (λ z. z *ℤ a) zero_is in
    omega (arith, ints, one, other, e)))

product_within : (k a i b : ℤ) → a ≤ℤ i → i ≤ℤ b → (most : ℤ) → (k *ℤ a) <ℤ most → (k *ℤ b) <ℤ most → (k *ℤ i) <ℤ most
product_within k a i b h g most e f = by_lt_z k (pos 0)
    (λ below. let more = mul-le_below k a i below h in omega (arith, ints, more, e))
    (λ above. by_lt_z (pos 0) k
    (λ strict. let more = mul-le_above k i b strict g in omega (arith, ints, more, f))
    (λ none.
    let zero_is : k ≡ pos 0 = omega (arith, ints, above, none) in
    let one : k *ℤ i ≡ pos 0 *ℤ i = ap (λ z. z *ℤ i) zero_is in
    let other : k *ℤ a ≡ pos 0 *ℤ a = ap (λ z. z *ℤ a) zero_is in
    omega (arith, ints, one, other, e)))

not_below : (z : ℤ) (b : Bool) → int_lt z (pos 0) ≡ b → pos 0 ≤ℤ z → b ≡ false
not_below z true e h = absurd (omega (arith, ints, e, h))
not_below z false e h = refl

below : (z : ℤ) (b : Bool) → int_lt z (pos 0) ≡ b → z <ℤ pos 0 → b ≡ true
below z true e h = refl
below z false e h = absurd (omega (arith, ints, e, h))

-- between two columns behind a seg all are behind it, and between two that aren't none is
pub behind_between : (ends : Ends) (row : Row) (behind : Bool) (a i b : ℕ) → a ≤ i → i ≤ b
    → int_lt (cross ends (point_of row a)) (pos 0) ≡ behind → int_lt (cross ends (point_of row b)) (pos 0) ≡ behind
    → int_lt (cross ends (point_of row i)) (pos 0) ≡ behind
behind_between ends row true a i b h g e f =
    let dy = ends.to.y -ℤ ends.from.y in
    let other = (ends.to.x -ℤ ends.from.x) *ℤ (cell_y row.grid row.j -ℤ ends.from.y) in
    let x : ℕ → ℤ = λ c. cell_x row.grid c -ℤ ends.from.x in
    let left = cell_x-ordered row.grid a i h in
    let right = cell_x-ordered row.grid i b g in
    let inside = product_within dy (x a) (x i) (x b) (omega (arith, ints, left)) (omega (arith, ints, right)) other
    (omega (arith, ints, e)) (omega (arith, ints, f)) in
    below (cross ends (point_of row i)) _ refl (omega (arith, ints, inside))
behind_between ends row false a i b h g e f =
    let dy = ends.to.y -ℤ ends.from.y in
    let other = (ends.to.x -ℤ ends.from.x) *ℤ (cell_y row.grid row.j -ℤ ends.from.y) in
    let x : ℕ → ℤ = λ c. cell_x row.grid c -ℤ ends.from.x in
    let left = cell_x-ordered row.grid a i h in
    let right = cell_x-ordered row.grid i b g in
    let inside = product_between dy (x a) (x i) (x b) (omega (arith, ints, left)) (omega (arith, ints, right)) other
    (omega (arith, ints, e)) (omega (arith, ints, f)) in
    not_below (cross ends (point_of row i)) _ refl (omega (arith, ints, inside))
