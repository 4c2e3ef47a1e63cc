-- How many nodes stand at or below the places of a level, and the way of a point down from a place
-- (R_PointInSubsector of r_main.c, R_RenderBSPNode of r_bsp.c).
use Rattle.std.specs.Prelude.{◌≡◌, ℕ, zero, suc, ◌+◌, ◌<◌, Some}
use Rattle.std.specs.Option.{option_map_or}
use Rattle.map_geo.specs.declared.sides.Side.{Side}
use Rattle.map_geo.specs.declared.sides.Side.TheVariants.{Front, Back}
use Rattle.map_geo.specs.Point.{Point}
use Rattle.map_level.specs.Level.{Level}
use Rattle.map_tree.specs.Paths.{Place, node, ssector}
use Rattle.map_tree.specs.Child.{node_count, child, side_at}

-- how many nodes stand at or below a place, in a tree no deeper than the fuel; a child that names nothing has none
abbrev pub size_in : Level → ℕ → Place → ℕ
size_in level fuel (ssector t) = 0
size_in level zero (node n) = 1
size_in level (suc fuel) (node n) =
    suc (option_map_or (size_in level fuel) (child level n Front) 0 + option_map_or (size_in level fuel) (child level n Back) 0)

-- how many nodes stand at or below a place, where no way down is longer than there are nodes
abbrev pub size_of : Level → Place → ℕ
size_of level place = size_in level (node_count level) place

-- the sizes are those of a tree: a node's is one more than those of its two children
pub record AreSizes (level : Level) (size : Place → ℕ) : Type 0 where
  pub at_ssector : (t : ℕ) → size (ssector t) ≡ 0
  pub some : (n : ℕ) → n < node_count level → 0 < size (node n)
  pub at_child : (n : ℕ) (s : Side) (p : Place) → child level n s ≡ Some p → size p < size (node n)
  pub at_node : (n : ℕ) (p q : Place) → child level n Front ≡ Some p → child level n Back ≡ Some q → size (node n) ≡ suc (size p + size q)

-- from the place, by the sides on which the point lies, to ssector t
pub data Falls (level : Level) (point : Point) : Place → ℕ → Type 0 where
  there : (t : ℕ) → Falls level point (ssector t) t
  down : (n : ℕ) (s : Side) (next : Place) (t : ℕ) → side_at level n point ≡ Some s → child level n s ≡ Some next
      → Falls level point next t → Falls level point (node n) t
