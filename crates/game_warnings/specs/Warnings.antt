-- Warnings of what the game does, and their order in a report (ours).
use Rattle.std.specs.Prelude.{◌≡◌, ℕ, ◌+◌, ◌-◌, ◌*◌, ◌^◌, ◌<◌, List, [], ◌∷◌, ◌++◌, length, take, min, nat_lt, if◌then◌else◌}
use Rattle.game_numbers.specs.declared.key.Key.{Key}
use Rattle.game_numbers.specs.declared.key.Key.TheVariants.{Blue, Yellow, Red}
use Rattle.map_level.specs.Findings.{AreAllInOrder}
use Rattle.game_warnings.specs.declared.warning.Barrier.{Barrier}
use Rattle.game_warnings.specs.declared.warning.Barrier.TheVariants.{NoBack, LetsNone}
use Rattle.game_warnings.specs.declared.warning.GameWarning.{GameWarning}
use Rattle.game_warnings.specs.declared.warning.GameWarning.TheVariants.{UnknownSpecial, ZeroTag, NeverCrossed, NoDestination, OneSidedDoor, ManyPlatforms, ManyCeilings, Harmful, DeadlyFloor, NoExit, Locked, EndsThings, InNoSkill, NoTarget, ManyTargets, ManyScrolling, ManyPerpetual, ManyStarts, LongSave, LacksPatch, MisplacedFlat}
use Rattle.game_warnings.specs.Harm.{effect_of}
use Rattle.game_warnings.specs.declared.warning.Effect.{Effect}
use Rattle.game_warnings.specs.declared.warning.Effect.TheVariants.{Donut, Nearest, Change}
use Rattle.game_warnings.specs.declared.warning.Surface.{Surface}
use Rattle.game_warnings.specs.declared.warning.Surface.TheVariants.{Floor, Ceiling}
use Rattle.game_warnings.specs.declared.code.GameCode.{GameCode}
use Rattle.game_warnings.specs.declared.code.GameCode.TheVariants.{W14, W15, W16, W17, W18, W19, W21, W22, W25}

-- the code of a warning
abbrev pub code_of : GameWarning → GameCode
code_of (UnknownSpecial linedef) = W14
code_of (ZeroTag linedef sectors) = W15
code_of (NeverCrossed linedef barrier) = W16
code_of (NoDestination linedef) = W16
code_of (OneSidedDoor linedef) = W17
code_of (ManyPlatforms linedef platforms) = W17
code_of (ManyCeilings linedef ceilings) = W17
code_of (Harmful linedef harm) = W17
code_of (DeadlyFloor sector) = W18
code_of NoExit = W19
code_of (Locked key linedefs skills) = W19
code_of (EndsThings thing follow) = W21
code_of (InNoSkill thing) = W21
code_of (NoTarget thing skills) = W21
code_of (ManyTargets thing skills) = W21
code_of (ManyScrolling linedefs) = W22
code_of (ManyPerpetual sectors) = W22
code_of (ManyStarts starts) = W22
code_of (LongSave bytes) = W22
code_of (LacksPatch texture) = W22
code_of (MisplacedFlat sector surface) = W25

-- the number of the record that a warning is of; 0 for what is of the level
abbrev pub number_of : GameWarning → ℕ
number_of (UnknownSpecial linedef) = linedef
number_of (ZeroTag linedef sectors) = linedef
number_of (NeverCrossed linedef barrier) = linedef
number_of (NoDestination linedef) = linedef
number_of (OneSidedDoor linedef) = linedef
number_of (ManyPlatforms linedef platforms) = linedef
number_of (ManyCeilings linedef ceilings) = linedef
number_of (Harmful linedef harm) = linedef
number_of (DeadlyFloor sector) = sector
number_of NoExit = 0
number_of (Locked key linedefs skills) = 0
number_of (EndsThings thing follow) = thing
number_of (InNoSkill thing) = thing
number_of (NoTarget thing skills) = thing
number_of (ManyTargets thing skills) = thing
number_of (ManyScrolling linedefs) = 0
number_of (ManyPerpetual sectors) = 0
number_of (ManyStarts starts) = 0
number_of (LongSave bytes) = 0
number_of (LacksPatch texture) = 0
number_of (MisplacedFlat sector surface) = sector

-- a missing back before flags
abbrev pub barrier_number : Barrier → ℕ
barrier_number NoBack = 0
barrier_number LetsNone = 1

-- blue before yellow before red
abbrev pub key_number : Key → ℕ
key_number Blue = 0
key_number Yellow = 1
key_number Red = 2

-- a donut before platforms and ceilings, the two others behind these
abbrev pub effect_number : Effect → ℕ
effect_number Donut = 1
effect_number Nearest = 4
effect_number Change = 5

-- a floor before a ceiling
abbrev pub surface_number : Surface → ℕ
surface_number Floor = 0
surface_number Ceiling = 1

-- where a warning is among those of its code: by the record, and then in this order
abbrev pub rank : GameWarning → ℕ
rank (UnknownSpecial linedef) = linedef
rank (ZeroTag linedef sectors) = linedef
rank (NeverCrossed linedef barrier) = linedef * 3 + barrier_number barrier
rank (NoDestination linedef) = linedef * 3 + 2
rank (OneSidedDoor linedef) = linedef * 6
rank (ManyPlatforms linedef platforms) = linedef * 6 + 2
rank (ManyCeilings linedef ceilings) = linedef * 6 + 3
rank (Harmful linedef harm) = linedef * 6 + effect_number (effect_of harm)
rank (DeadlyFloor sector) = sector
rank NoExit = 0
rank (Locked key linedefs skills) = 1 + key_number key
rank (EndsThings thing follow) = thing * 4
rank (InNoSkill thing) = thing * 4 + 1
rank (NoTarget thing skills) = thing * 4 + 2
rank (ManyTargets thing skills) = thing * 4 + 3
rank (ManyScrolling linedefs) = 0
rank (ManyPerpetual sectors) = 1
rank (ManyStarts starts) = 2
rank (LongSave bytes) = 3
rank (LacksPatch texture) = 4
rank (MisplacedFlat sector surface) = sector * 2 + surface_number surface

-- the warnings that hold
abbrev pub AreWarnings : (GameWarning → Type 0) → List GameWarning → Type 0
AreWarnings holds all = AreAllInOrder (λ a b. rank a < rank b) holds all

-- the first of a list of warnings, so many at most, and how many there are
pub record Cut : Type 0 where
  pub most : ℕ
  pub first : List GameWarning
  pub count : ℕ

-- a cut of a list; its count stops at the greatest number of 64 bits
pub record IsCut (all : List GameWarning) (cut : Cut) : Type 0 where
  pub first : cut.first ≡ take cut.most all
  pub count : cut.count ≡ min (length all) (2 ^ 64 - 1)

-- the report on the warnings that hold: as many as a cut has, and how many there are
pub record Tells (holds : GameWarning → Type 0) (cut : Cut) : Type 0 where
  pub all : List GameWarning
  pub are : AreWarnings holds all
  pub is : IsCut all cut

-- the report on those that hold and are below a number
abbrev pub TellsBelow : (GameWarning → Type 0) → ℕ → Cut → Type 0
TellsBelow holds bound cut = Tells (λ w. holds w × (rank w < bound)) cut

-- a cut with one warning more
abbrev pub cut_with : Cut → GameWarning → Cut
cut_with cut w = record {
  most = cut.most;
  first = if nat_lt (length cut.first) cut.most then cut.first ++ w ∷ [] else cut.first;
  count = min (cut.count + 1) (2 ^ 64 - 1);
}
