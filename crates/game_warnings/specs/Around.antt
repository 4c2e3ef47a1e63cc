-- What is known of a sector from the first so many linedefs (ours).
use Rattle.std.specs.Prelude.{◌≡◌, ◌≢◌, ℕ, ◌<◌, List, Option, count_by, fold, length, take, IfSome, IsSomeAnd, IsTrue, slice_index_or}
use Rattle.std.specs.List.{slice_get}
use Rattle.map_level.specs.Level.{Level}
use Rattle.map_level.specs.Links.{sectors_of}
use Rattle.game_warnings.specs.Change.{begun, look}
use Rattle.game_warnings.specs.First.{IsFirstBelow}
use Rattle.game_warnings.specs.Neighbours.{leads_up, lower_by}
use Rattle.game_warnings.specs.Sides.{floor_at, is_of, sides_in, IsLineAt}
use Rattle.game_warnings.specs.declared.around.Around.{Around}
use Rattle.game_warnings.specs.declared.around.FirstLines.{FirstLines}
use Rattle.game_warnings.specs.declared.search.Search.{Search}

-- linedef k is one of sector s, with another sector behind it than a given one
abbrev pub LeadsElsewhereAt : Level → ℕ → Option ℕ → ℕ → Type 0
LeadsElsewhereAt level s behind k = IsSomeAnd (slice_get (sides_in level) k) (λ sides. IsTrue (is_of s sides) × (sides.back ≢ behind))

-- the first linedef of sector s below n, what is behind it, and the first one with something else behind it
pub record AreFirstLines (level : Level) (s n : ℕ) (lines : FirstLines) : Type 0 where
  pub first : IsFirstBelow (IsLineAt level s) n lines.first
  pub behind : IfSome lines.first (λ f. IsSomeAnd (slice_get (sides_in level) f) (λ sides. sides.back ≡ lines.behind))
  pub other : IsFirstBelow (LeadsElsewhereAt level s lines.behind) n lines.other

-- what lies around sector s, from the linedefs below n
pub record IsAround (level : Level) (s n : ℕ) (around : Around) : Type 0 where
  pub linedefs : around.linedefs ≡ count_by (is_of s) (take n (sides_in level))
  pub higher : around.higher ≡ count_by (leads_up level s) (take n (sides_in level))
  pub lowest : around.lowest ≡ fold (lower_by level s) (floor_at level s) (take n (sides_in level))
  pub lines : AreFirstLines level s n around.lines

-- so of each sector
pub record AreAround (level : Level) (n : ℕ) (around : List Around) : Type 0 where
  pub long : length around ≡ length (sectors_of level)
  pub each : (s : ℕ) (d : Around) → s < length (sectors_of level) → IsAround level s n (slice_index_or around s d)

-- how far each sector's search is after so many linedefs
pub record AreSearches (level : Level) (n : ℕ) (searches : List Search) : Type 0 where
  pub long : length searches ≡ length (sectors_of level)
  pub each : (s : ℕ) (d : Search) → s < length (sectors_of level)
      → slice_index_or searches s d ≡ fold (look level s) (begun level s) (take n (sides_in level))
