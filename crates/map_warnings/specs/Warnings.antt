-- Warnings, and their order in a report (ours).
use Rattle.std.specs.Prelude.{◌≡◌, ℕ, ◌+◌, ◌-◌, ◌*◌, ◌^◌, ◌<◌, Bool, false, List, [], ◌∷◌, ◌++◌, length, map, take, min, nat_lt, if◌then◌else◌}
use Rattle.game_warnings.specs.Warnings as game
use Rattle.game_warnings.specs.declared.warning.GameWarning.{GameWarning}
use Rattle.game_warnings.specs.declared.warning.GameWarning.TheVariants.{ManyStarts}
use Rattle.level_codes.specs.Codes as codes
use Rattle.level_codes.specs.declared.code.ReportCode.TheVariants as report
use Rattle.map_level.specs.Findings.{AreAllInOrder}
use Rattle.map_warnings.specs.Game.{report_code}
use Rattle.map_warnings.specs.declared.warning.Side.{Side}
use Rattle.map_warnings.specs.declared.warning.Side.TheVariants.{Front, Back}
use Rattle.map_warnings.specs.declared.warning.SidePart.{SidePart}
use Rattle.map_warnings.specs.declared.warning.SidePart.TheVariants.{Middle, Upper, Lower}
use Rattle.map_warnings.specs.declared.warning.Plane.{Plane}
use Rattle.map_warnings.specs.declared.warning.Plane.TheVariants.{Floor, Ceiling}
use Rattle.map_warnings.specs.declared.warning.Warning.{Warning}
use Rattle.map_warnings.specs.declared.warning.Warning.TheVariants.{Unclosed, Bare, InVoid, Untagged, Mismatched, Twin, NoStart, FewStarts, UnknownTexture, UnknownFlat, UnknownThing, Game}
use Rattle.level_codes.specs.declared.code.WarningCode.{WarningCode}
use Rattle.level_codes.specs.declared.code.WarningCode.TheVariants.{W1, W2, W3, W4, W5, W6, W7, W8, W9, W10, W11}

-- the code of a warning
abbrev pub code_of : Warning → WarningCode
code_of (Unclosed sector vertex) = W1
code_of (Bare linedef side part) = W2
code_of (InVoid thing) = W3
code_of (Untagged linedef) = W4
code_of (Mismatched ssector first other) = W5
code_of (Twin linedef earlier) = W6
code_of (NoStart player) = W7
code_of (FewStarts starts) = W8
code_of (UnknownTexture sidedef part) = W9
code_of (UnknownFlat sector plane) = W10
code_of (UnknownThing thing) = W11
code_of (Game w) = report_code (game.code_of w)

-- the number of the record that a warning is of; 0 for what can hold only once
abbrev pub number_of : Warning → ℕ
number_of (Unclosed sector vertex) = sector
number_of (Bare linedef side part) = linedef
number_of (InVoid thing) = thing
number_of (Untagged linedef) = linedef
number_of (Mismatched ssector first other) = ssector
number_of (Twin linedef earlier) = linedef
number_of (NoStart player) = 0
number_of (FewStarts starts) = 0
number_of (UnknownTexture sidedef part) = sidedef
number_of (UnknownFlat sector plane) = sector
number_of (UnknownThing thing) = thing
number_of (Game w) = game.number_of w

-- the released game ends at a warning, or writes where nothing of its own is: as its code says, but for deathmatch starts that are too many, which it never uses
-- (P_SpawnMapThing of p_mobj.c)
abbrev pub ends_at : GameWarning → Bool
ends_at (ManyStarts starts) = false
ends_at w = codes.ends_game (report.Warning (report_code (game.code_of w)))

abbrev pub ends_game : Warning → Bool
ends_game (Game w) = ends_at w
ends_game w = codes.ends_game (report.Warning (code_of w))

-- the front before the back
abbrev pub side_number : Side → ℕ
side_number Front = 0
side_number Back = 1

-- the middle before the upper before the lower
abbrev pub part_number : SidePart → ℕ
part_number Middle = 0
part_number Upper = 1
part_number Lower = 2

-- of a sidedef's textures the upper before the lower before the middle
abbrev pub texture_number : SidePart → ℕ
texture_number Upper = 0
texture_number Lower = 1
texture_number Middle = 2

-- the floor before the ceiling
abbrev pub plane_number : Plane → ℕ
plane_number Floor = 0
plane_number Ceiling = 1

-- where a warning is among those of its code: by the record, then by side and part or by plane; 0 for what can hold only once
abbrev pub rank : Warning → ℕ
rank (Unclosed sector vertex) = sector * 65536 + vertex
rank (Bare linedef side part) = linedef * 6 + side_number side * 3 + part_number part
rank (InVoid thing) = thing
rank (Untagged linedef) = linedef
rank (Mismatched ssector first other) = ssector
rank (Twin linedef earlier) = linedef
rank (NoStart player) = 0
rank (FewStarts starts) = 0
rank (UnknownTexture sidedef part) = sidedef * 3 + texture_number part
rank (UnknownFlat sector plane) = sector * 2 + plane_number plane
rank (UnknownThing thing) = thing
rank (Game w) = game.rank w

-- the warnings that hold
abbrev pub AreWarnings : (Warning → Type 0) → List Warning → Type 0
AreWarnings holds all = AreAllInOrder (λ a b. rank a < rank b) holds all

-- the first of a list of warnings, so many at most, and how many there are
pub record Cut : Type 0 where
  pub most : ℕ
  pub first : List Warning
  pub count : ℕ

-- a cut of a list; its count stops at the greatest number of 64 bits
pub record IsCut (all : List Warning) (cut : Cut) : Type 0 where
  pub first : cut.first ≡ take cut.most all
  pub count : cut.count ≡ min (length all) (2 ^ 64 - 1)

-- the report on the warnings that hold: as many as a cut has, and how many there are
pub record Tells (holds : Warning → Type 0) (cut : Cut) : Type 0 where
  pub all : List Warning
  pub are : AreWarnings holds all
  pub is : IsCut all cut

-- the report on those that hold and are below a number
abbrev pub TellsBelow : (Warning → Type 0) → ℕ → Cut → Type 0
TellsBelow holds bound cut = Tells (λ w. holds w × (rank w < bound)) cut

-- a cut with one warning more
abbrev pub cut_with : Cut → Warning → Cut
cut_with cut w = record {
  most = cut.most;
  first = if nat_lt (length cut.first) cut.most then cut.first ++ w ∷ [] else cut.first;
  count = min (cut.count + 1) (2 ^ 64 - 1);
}

-- a cut of what the game does, as one of warnings
abbrev pub warnings_of : game.Cut → Cut
warnings_of cut = record { most = cut.most; first = map (λ w. Game w) cut.first; count = cut.count }
