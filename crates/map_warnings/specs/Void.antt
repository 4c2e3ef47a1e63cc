-- W3: things in the void (ours).
use Rattle.std.specs.Prelude.{ℕ, ℤ, IsSomeAnd}
use Rattle.std.specs.List.{slice_get}
use Rattle.map_cells.specs.Shown.{IsShown}
use Rattle.map_geo.specs.Point.{IsInRange}
use Rattle.map_level.specs.Level.{Level}
use Rattle.map_level.specs.Links.{things_of}

-- a point is in range, and a picture shows no sector there
pub record ShowsNothing (level : Level) (x y : ℤ) : Type 0 where
  pub column : IsInRange x
  pub row : IsInRange y
  pub none : (s : ℕ) → ¬ IsShown level x y s

-- a thing stands at such a point
abbrev pub IsInVoid : Level → ℕ → Type 0
IsInVoid level k = IsSomeAnd (slice_get (things_of level) k) (λ thing. ShowsNothing level thing.x thing.y)
