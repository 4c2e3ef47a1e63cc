-- Places of a tree of nodes, and which of them lead to which (R_PointInSubsector of r_main.c).
use Rattle.std.specs.Prelude.{◌≡◌, ℕ, zero, suc, Option, Some}
use Rattle.map_geo.specs.declared.sides.Side.{Side}

-- what a child word can name: a node, or an ssector
pub data Place : Type 0 where
  node : ℕ → Place
  ssector : ℕ → Place

-- where child gives the child of a node at a side: a place leads to another in so many steps
abbrev pub LeadsIn : (ℕ → Side → Option Place) → ℕ → Place → Place → Type 0
LeadsIn child zero from to = from ≡ to
LeadsIn child (suc steps) (node n) to =
    (s : Side) × (next : Place) × (child n s ≡ Some next) × LeadsIn child steps next to
LeadsIn child (suc steps) (ssector t) to = ⊥

-- a place leads to another, in some number of steps
abbrev pub Leads : (ℕ → Side → Option Place) → Place → Place → Type 0
Leads child from to = (steps : ℕ) × LeadsIn child steps from to
