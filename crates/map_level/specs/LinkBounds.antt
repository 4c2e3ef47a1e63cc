-- Records at which some code of their table holds, for the tables that have several codes (ours).
use Rattle.std.specs.Prelude.{ℕ, ◌<◌, ◌⊎◌}
use Rattle.map_level.specs.Level.{Level}
use Rattle.map_level.specs.LinkFaults.{LinedefVertexNamesNone, LinedefSideNamesNone, SegVertexNamesNone, SegLinedefNamesNone, SegSideOther, SegWithoutSide, SsectorOutOfRange, TwoSidedWithoutSide, NoSide0, LinedefOfNoLength, SsectorWithoutSegs}
use Rattle.map_level.specs.declared.link_bounds.Bounds.{Bounds}

-- F3, F4, N3, N4 or N5
abbrev pub LinedefFound : Level → ℕ → Type 0
LinedefFound level i =
    LinedefVertexNamesNone level i ⊎ (LinedefSideNamesNone level i
    ⊎ (TwoSidedWithoutSide level i ⊎ (NoSide0 level i ⊎ LinedefOfNoLength level i)))

-- F6, F7, F8 or F9
abbrev pub SegFound : Level → ℕ → Type 0
SegFound level i =
    SegVertexNamesNone level i ⊎ (SegLinedefNamesNone level i ⊎ (SegSideOther level i ⊎ SegWithoutSide level i))

-- F10 or N6
abbrev pub SsectorFound : Level → ℕ → Type 0
SsectorFound level i = SsectorOutOfRange level i ⊎ SsectorWithoutSegs level i

-- above the index of each such record
pub record AreBounds (level : Level) (bounds : Bounds) : Type 0 where
  pub linedefs : (i : ℕ) → LinedefFound level i → i < bounds.linedefs
  pub segs : (i : ℕ) → SegFound level i → i < bounds.segs
  pub ssectors : (i : ℕ) → SsectorFound level i → i < bounds.ssectors
