-- Where each warning holds (ours).
use Rattle.std.specs.Prelude.{◌≡◌, List, Option, None, IsSomeAnd}
use Rattle.map_level.specs.Level.{Level}
use Rattle.game_warnings.specs.Warnings.{code_of}
use Rattle.game_warnings.specs.Crossing.{IsNeverCrossed}
use Rattle.game_warnings.specs.DeadlyFloor.{IsDeadly}
use Rattle.game_warnings.specs.Destination.{HasNoDestination}
use Rattle.game_warnings.specs.Effect.{HasManyCeilings, HasManyPlatforms, IsOneSidedDoor}
use Rattle.game_warnings.specs.Ending as ending
use Rattle.game_warnings.specs.Exit.{HasExit}
use Rattle.game_warnings.specs.Harm.{HasHarm}
use Rattle.game_warnings.specs.Limit.{deathmatch_count, perpetual_count, scrolling_count, IsAbove}
use Rattle.game_warnings.specs.Lock.{IsLocked}
use Rattle.game_warnings.specs.Misplaced.{IsMisplaced}
use Rattle.game_warnings.specs.Patches as patches
use Rattle.game_warnings.specs.Save.{saved}
use Rattle.game_warnings.specs.Shooter.{HasManyTargets, HasNoTarget, IsInNoSkill}
use Rattle.game_warnings.specs.UnknownSpecial.{IsUnknownSpecial}
use Rattle.game_warnings.specs.ZeroTag.{HasZeroTag}
use Rattle.wad_dir.specs.Wad.{Wad}
use Rattle.game_warnings.specs.declared.code.GameCode.{GameCode}
use Rattle.game_warnings.specs.declared.warning.GameWarning.{GameWarning}
use Rattle.game_warnings.specs.declared.warning.GameWarning.TheVariants.{UnknownSpecial, ZeroTag, NeverCrossed, NoDestination, OneSidedDoor, ManyPlatforms, ManyCeilings, Harmful, DeadlyFloor, NoExit, Locked, EndsThings, InNoSkill, NoTarget, ManyTargets, ManyScrolling, ManyPerpetual, ManyStarts, LongSave, LacksPatch, MisplacedFlat}

-- a warning holds of a level; the level's textures and flats are those of some files, if these are known
abbrev pub Holds : Option (List Wad) → Level → GameWarning → Type 0
Holds files level (UnknownSpecial linedef) = IsUnknownSpecial level linedef
Holds files level (ZeroTag linedef sectors) = HasZeroTag level linedef sectors
Holds files level (NeverCrossed linedef barrier) = IsNeverCrossed level linedef barrier
Holds files level (NoDestination linedef) = HasNoDestination level linedef
Holds files level (OneSidedDoor linedef) = IsOneSidedDoor level linedef
Holds files level (ManyPlatforms linedef platforms) = HasManyPlatforms level linedef platforms
Holds files level (ManyCeilings linedef ceilings) = HasManyCeilings level linedef ceilings
Holds files level (Harmful linedef harm) = HasHarm level linedef harm
Holds files level (DeadlyFloor sector) = IsDeadly level sector
Holds files level NoExit = ¬ HasExit level
Holds files level (Locked key linedefs skills) = IsLocked level key linedefs skills
Holds files level (EndsThings thing follow) = ending.EndsThings level thing follow
Holds files level (InNoSkill thing) = IsInNoSkill level thing
Holds files level (NoTarget thing skills) = HasNoTarget level thing skills
Holds files level (ManyTargets thing skills) = HasManyTargets level thing skills
Holds files level (ManyScrolling linedefs) = IsAbove 64 (scrolling_count level) linedefs
Holds files level (ManyPerpetual sectors) = IsAbove 30 (perpetual_count level) sectors
Holds files level (ManyStarts starts) = IsAbove 10 (deathmatch_count level) starts
Holds files level (LongSave bytes) = IsAbove 180224 (saved level) bytes
Holds files level (LacksPatch texture) = IsSomeAnd files (λ known. patches.LacksPatch known texture)
Holds files level (MisplacedFlat sector surface) = IsSomeAnd files (λ known. IsMisplaced known level sector surface)

-- a warning of a code holds of a level with its files
abbrev pub HoldsIn : Option (List Wad) → Level → GameCode → GameWarning → Type 0
HoldsIn files level code w = (code_of w ≡ code) × Holds files level w

-- a warning of a code holds of a level alone
abbrev pub HoldsOf : Level → GameCode → GameWarning → Type 0
HoldsOf level code w = HoldsIn None level code w
