-- Later segs and ssectors at which some code of their table holds (ours).
use Rattle.std.specs.Prelude.{ℕ, ◌<◌, ◌⊎◌}
use Rattle.node_lumps.specs.Later.{Later}
use Rattle.later_levels.specs.LaterLevel.{LaterLevel}
use Rattle.later_levels.specs.SegFaults.{SegLinedefNamesNone, SegSideOther, SegVertexNamesNone, SegWithoutSide}
use Rattle.later_levels.specs.SsectorFaults.{SsectorOutOfRange, SsectorWithoutSegs}
use Rattle.later_levels.specs.declared.table_bounds.Bounds.{Bounds}

-- F6, F7, F8 or F9
abbrev pub SegFound : LaterLevel → ℕ → Type 0
SegFound one i =
    SegVertexNamesNone one.later i ⊎ (SegLinedefNamesNone one i ⊎ (SegSideOther one.later i ⊎ SegWithoutSide one i))

-- F10 or N6
abbrev pub SsectorFound : Later → ℕ → Type 0
SsectorFound later t = SsectorOutOfRange later t ⊎ SsectorWithoutSegs later t

-- above the index of each of them
pub record AreBounds (one : LaterLevel) (bounds : Bounds) : Type 0 where
  pub segs : (i : ℕ) → SegFound one i → i < bounds.segs
  pub ssectors : (t : ℕ) → SsectorFound one.later t → t < bounds.ssectors
