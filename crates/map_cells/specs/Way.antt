-- The way of a row's points down the nodes (R_PointInSubsector of r_main.c).
use Rattle.std.specs.Prelude.{◌≡◌, ℕ, zero, suc, ◌<◌, ◌≤◌, List, [], ◌∷◌, Some}
use Rattle.le_rec.specs.declared.records.Node.{Node}
use Rattle.map_geo.specs.declared.sides.Side.{Side}
use Rattle.map_geo.specs.Partition.{partition_of}
use Rattle.map_geo.specs.Point.{Point}
use Rattle.map_geo.specs.Side.{other, side_of}
use Rattle.map_level.specs.Level.{Level}
use Rattle.map_tree.specs.Child.{child, place_of, root, side_at, word_at}
use Rattle.map_tree.specs.Paths.{Place, node, ssector}
use Rattle.map_cells.specs.declared.way.Stretch.{Stretch}
use Rattle.map_cells.specs.declared.way.Parted.{Parted}
use Rattle.map_cells.specs.Row.{Row, point_of}

-- the sides of a point lead from a place to another in so many steps
abbrev pub SidesLead : Level → Point → ℕ → Place → Place → Type 0
SidesLead level point zero from to = from ≡ to
SidesLead level point (suc steps) (node n) to =
    (s : Side) × (next : Place) × (side_at level n point ≡ Some s) × (child level n s ≡ Some next) × SidesLead level point steps next to
SidesLead level point (suc steps) (ssector t) to = ⊥

-- they lead from the root to the place that a child word names
abbrev pub ComesTo : Level → Point → ℕ → ℕ → Type 0
ComesTo level point steps word = SidesLead level point steps (root level) (place_of word)

-- all points of a row from a column up to another have reached that place
abbrev pub AllCome : Level → Row → ℕ → ℕ → ℕ → Type 0
AllCome level row from end word = (i : ℕ) → from ≤ i → i < end → (steps : ℕ) × ComesTo level (point_of row i) steps word

-- the parts that are pending, of which each begins where the next one ends: they go from a column up to another
abbrev pub ArePending : Level → Row → ℕ → ℕ → List Stretch → Type 0
ArePending level row from end [] = from ≡ end
ArePending level row from end (part ∷ parts) =
    (part.end ≡ end) × (begin : ℕ) × (begin < end) × AllCome level row begin end part.word × ArePending level row from begin parts

-- the columns from one up to another, parted at a node where its side changes
pub record IsParted (found : Node) (row : Row) (from end : ℕ) (parted : Parted) : Type 0 where
  pub side : Side
  pub near_word : parted.near.word ≡ word_at found side
  pub far_word : parted.far ≡ word_at found (other side)
  pub some : from < parted.near.end
  pub within : parted.near.end ≤ end
  pub near : (i : ℕ) → from ≤ i → i < parted.near.end → side_of (partition_of found) (point_of row i) ≡ side
  pub far : (i : ℕ) → parted.near.end ≤ i → i < end → side_of (partition_of found) (point_of row i) ≡ other side
