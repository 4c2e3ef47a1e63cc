-- The ssector of a point (R_PointInSubsector of r_main.c), and the nodes above an ssector.
use Rattle.std.specs.Prelude.{◌≡◌, ◌≢◌, ℕ, ◌↔◌, List, [], ◌∷◌, length, AllPairs, Contains, Some}
use Rattle.map_geo.specs.declared.sides.Side.{Side}
use Rattle.map_geo.specs.Point.{Point}
use Rattle.map_level.specs.Level.{Level}
use Rattle.map_level.specs.SectorOf.{sector_of}
use Rattle.map_tree.specs.Paths.{Place, ssector, Leads}
use Rattle.map_tree.specs.Child.{child, side_at, IsReached}

-- the child of node n at a side leads to the place
abbrev pub ChildLeads : Level → ℕ → Side → Place → Type 0
ChildLeads level n s place =
    (next : Place) × (child level n s ≡ Some next) × Leads (child level) next place

-- ssector t is a leaf for the point: it is reached, and at each node above it the point lies
-- on the side that leads to it
pub record IsLeaf (level : Level) (point : Point) (t : ℕ) : Type 0 where
  pub reached : IsReached level (ssector t)
  pub agrees : (n : ℕ) (s : Side) → ChildLeads level n s (ssector t)
      → side_at level n point ≡ Some s

-- the point lies in this ssector, and in this sector
abbrev pub LiesIn : Level → Point → ℕ × ℕ → Type 0
LiesIn level point found = IsLeaf level point found.0 × (sector_of level found.0 ≡ Some found.1)

-- node n is an ancestor of ssector t
abbrev pub IsAncestor : Level → ℕ → ℕ → Type 0
IsAncestor level t n = (s : Side) × ChildLeads level n s (ssector t)

-- ssector t has so many ancestors
pub record CountsAncestors (level : Level) (t count : ℕ) : Type 0 where
  pub ancestors : List ℕ
  pub distinct : AllPairs (λ n m. n ≢ m) ancestors
  pub exact : (n : ℕ) → Contains ancestors n ↔ IsAncestor level t n
  pub many : length ancestors ≡ count

-- a relation holds of each of some things and of what stands at its place in another list, which is as long
abbrev pub Each : {A B : Type 0} → (A → B → Type 0) → List A → List B → Type 0
Each R [] [] = Unit {0}
Each R (x ∷ xs) (y ∷ ys) = R x y × Each R xs ys
Each R [] (y ∷ ys) = ⊥
Each R (x ∷ xs) [] = ⊥
