-- Laws of sound levels (ours).
use Rattle.std.specs.Prelude.{◌≡◌, ◌≢◌, ◌↔◌, ℕ, ◌+◌, ◌*◌, ◌<◌, ◌≤◌, List, length, Some}
use Rattle.std.specs.List.{slice_get, sum_by}
use Rattle.map_geo.specs.Point.{Point}
use Rattle.map_geo.specs.Rect.{Rect, IsRect, rows_of, point_count}
use Rattle.map_level.specs.Level.{Level}
use Rattle.map_tree.specs.Paths.{Place, ssector, LeadsIn}
use Rattle.map_tree.specs.Child.{node_count, child, root}
use Rattle.map_tree.specs.Leaf.{IsLeaf, CountsAncestors}
use Rattle.map_tree.specs.Sound.{IsSound, IsFaultless}
use Rattle.map_tree.specs.PlainCount.{TellsSectors, plain_count}
use Rattle.map_tree.specs.Areas.{AreAreas}
use Rattle.map_tree.specs.Counts.{ArePairs, Counts, IsCensus}
use Rattle.map_tree.specs.Work.{Work}

-- each point has exactly one leaf
abbrev pub OneLeaf : Type 0
OneLeaf = (level : Level) (point : Point) → IsSound level → (t : ℕ) × IsLeaf level point t × ((u : ℕ) → IsLeaf level point u → u ≡ t)

-- an ssector has as many ancestors as the root leads to it in steps
abbrev pub AncestorsByDepth : Type 0
AncestorsByDepth = (level : Level) (steps t : ℕ) → IsSound level → LeadsIn (child level) steps (root level) (ssector t) → CountsAncestors level t steps

-- the root leads to each place in at most as many steps as there are nodes
abbrev pub DepthAtMostNodes : Type 0
DepthAtMostNodes = (level : Level) (steps : ℕ) (place : Place) → IsSound level → LeadsIn (child level) steps (root level) place → steps ≤ node_count level

-- a level is sound exactly where no fault holds
abbrev pub SoundIsFaultless : Type 0
SoundIsFaultless = (level : Level) → IsSound level ↔ IsFaultless level

-- a piece takes one number of tests and is one deep
abbrev pub OneWork : Type 0
OneWork = (level : Level) (rect : Rect) (place : Place) (w p v q : ℕ) → IsRect rect → Work level rect place w p → Work level rect place v q → (w ≡ v) × (p ≡ q)

-- the work of a rectangle at the root is at most 18 tests for each of its rows and each node
abbrev pub FewTests : Type 0
FewTests = (level : Level) (rect : Rect) (w p : ℕ) → IsSound level → IsRect rect → Work level rect (root level) w p → w ≤ 18 * rows_of rect * node_count level

-- and its depth is at most the number of nodes plus 16
abbrev pub FewPending : Type 0
FewPending = (level : Level) (rect : Rect) (w p : ℕ) → IsSound level → IsRect rect → Work level rect (root level) w p → p ≤ node_count level + 16

-- there is a function that gives each point the sector of its leaf
abbrev pub SectorsAreTold : Type 0
SectorsAreTold = (level : Level) → IsSound level → (sector : Point → ℕ) × TellsSectors level sector

-- the plain counts of all sectors add up to the rectangle's points
abbrev pub CountsAddUp : Type 0
CountsAddUp = (sector : Point → ℕ) (rect : Rect) (pairs : List (ℕ × ℕ)) → ArePairs (λ s. plain_count sector s rect) pairs → sum_by (λ pair. pair.1) pairs ≡ point_count rect

-- a pair has the count of its sector
abbrev pub PairTells : Type 0
PairTells = (count : ℕ → ℕ) (pairs : List (ℕ × ℕ)) (i s n : ℕ) → ArePairs count pairs → slice_get pairs i ≡ Some (s, n) → n ≡ count s

-- and that of a sector with no pair is 0
abbrev pub NoPairTells : Type 0
NoPairTells = (count : ℕ → ℕ) (pairs : List (ℕ × ℕ)) (s : ℕ) → ArePairs count pairs → ((i n : ℕ) → i < length pairs → slice_get pairs i ≢ Some (s, n)) → 0 ≡ count s

-- a rectangle's plain counts have exactly one list of pairs
abbrev pub OneCounting : Type 0
OneCounting = (level : Level) (sector : Point → ℕ) (rect : Rect) → IsSound level → TellsSectors level sector
    → (pairs : List (ℕ × ℕ)) × ArePairs (λ s. plain_count sector s rect) pairs
    × ((other : List (ℕ × ℕ)) → ArePairs (λ s. plain_count sector s rect) other → other ≡ pairs)

-- over a sound level a list of pairs is a rectangle's areas exactly where it is the pairs of its census
abbrev pub CensusHasAreas : Type 0
CensusHasAreas = (level : Level) (rect : Rect) (counts : Counts) (pairs : List (ℕ × ℕ)) → IsSound level → IsCensus level rect counts → AreAreas level rect pairs ↔ (pairs ≡ counts.pairs)

-- and areas are the pairs of a census
abbrev pub AreasHaveCensus : Type 0
AreasHaveCensus = (level : Level) (rect : Rect) (pairs : List (ℕ × ℕ)) → IsSound level → IsRect rect → AreAreas level rect pairs
    → (tests : ℕ) × (pending : ℕ) × IsCensus level rect (record { pairs = pairs; tests = tests; pending = pending })
