use Rattle.std.proofs.Common.{◌+ℤ◌, ap, rules, ◌≡◌, ◌≤ℤ◌, ◌<ℤ◌, ◌∙◌, ℤ, pos, FitsSigned, of_z, w16, w32, arith}
use Rattle.std.proofs.lemmas.Int.{ints, to_z-of_z}
use Rattle.map_geo.specs.declared.sides.Side.{Side}
use Rattle.map_geo.specs.Partition.{Partition, partition_of}
use Rattle.map_geo.specs.Point.{IsInRange, point_at}
use Rattle.map_geo.specs.Side.{other, side_of}
use Rattle.map_tree.specs.Cuts.{IsLast}
use Rattle.map_tree.proofs.UprightLemmas.{own_is_last}
use Rattle.map_tree.proofs.column.last_column.Goals as goal

is_zero : (z : ℤ) → FitsSigned w16 z → of_z w16 z ≡ 0 → z ≡ pos 0
is_zero z fits e = omega (arith, ints)

wider : (z : ℤ) → FitsSigned w16 z → FitsSigned w32 z
wider z fits = omega (arith, ints)

pub returns-then-node-eq0 : goal.returns-then-node-eq0
returns-then-node-eq0 c =
    let h = c.requires in
    let found = c.args.node.now in
    let x_fits : FitsSigned w16 found.x = search rules in
    let dx_fits : FitsSigned w16 found.dx = search rules in
    rw (c.from.ensures ∙ to_z-of_z w16 found.x x_fits, to_z-of_z w32 found.x (wider _ x_fits))
    (own_is_last (partition_of found) c.args.y c.args.s c.args.x0 c.args.x1 (is_zero _ dx_fits c.if-node-eq0.true) h.ordered h.left h.right)

next_is : (a b : ℤ) → IsInRange a → IsInRange b → of_z w32 (a +ℤ pos 1) ≡ of_z w32 b → b ≡ a +ℤ pos 1
next_is a b first last e = omega (arith, ints, first.least, first.greatest, last.least, last.greatest)

same_column : (a b x : ℤ) → b ≡ a +ℤ pos 1 → a <ℤ x → x ≤ℤ b → x ≡ b
same_column a b x e after to = omega (arith, ints)

at_itself : (a : ℤ) → a ≤ℤ a
at_itself a = omega (arith, ints)

-- of two columns the first is the last with its side
first_of_two : (line : Partition) (y : ℤ) (s : Side) (x0 x1 : ℤ) → x0 <ℤ x1 → x1 ≡ x0 +ℤ pos 1 → side_of line (point_at x0 y) ≡ s → side_of line (point_at x1 y) ≡ other s → IsLast line y s x0 x1 x0
first_of_two line y s x0 x1 ordered next left right = record {
  from = at_itself x0;
  below = ordered;
  has = left;
  others = λ x after to. ap (λ z. side_of line (point_at z y)) (same_column x0 x1 x next after to) ∙ right;
}

pub returns-then-x0-x1 : goal.returns-then-x0-x1
returns-then-x0-x1 c =
    let h = c.requires in
    let x0 = c.ranges.x0 in
    let test = simp to_z-of_z at c.if-x0-x1.true in
    rw (to_z-of_z w32 c.args.x0 x0) (first_of_two (partition_of c.args.node.now) c.args.y c.args.s c.args.x0 c.args.x1 h.ordered (next_is c.args.x0 c.args.x1 h.left_in h.right_in test) h.left h.right)
