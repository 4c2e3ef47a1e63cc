-- What is told of a level alone is told of it with its files, but for textures and flats.
use Rattle.std.proofs.Common.{◌≡◌, ◌≢◌, ◌↔◌, ◌<◌, List, Some, arith}
use Rattle.std.specs.Prelude.{IfOk, Result, Ok, Err}
use Rattle.map_level.specs.Level.{Level}
use Rattle.wad_dir.specs.Wad.{Wad}
use Rattle.game_warnings.specs.declared.code.GameCode.{GameCode}
use Rattle.game_warnings.specs.declared.code.GameCode.TheVariants.{W22, W25}
use Rattle.game_warnings.specs.declared.warning.GameWarning.{GameWarning}
use Rattle.game_warnings.specs.declared.warning.GameWarning.TheVariants.{UnknownSpecial, ZeroTag, NeverCrossed, NoDestination, OneSidedDoor, ManyPlatforms, ManyCeilings, Harmful, DeadlyFloor, NoExit, Locked, EndsThings, InNoSkill, NoTarget, ManyTargets, ManyScrolling, ManyPerpetual, ManyStarts, LongSave, LacksPatch, MisplacedFlat}
use Rattle.game_warnings.specs.Holds.{HoldsIn, HoldsOf}
use Rattle.game_warnings.specs.Warnings.{rank, Cut, Tells, TellsBelow}

-- reports on warnings that hold alike are one
tells_as : (p q : GameWarning → Type 0) (cut : Cut) → ((w : GameWarning) → p w ↔ q w) → Tells p cut → Tells q cut
tells_as p q cut same told = record {
  all = told.all;
  are = record {
    ascending = told.are.ascending;
    exact = λ w. (
      (λ there. (same w).0 ((told.are.exact w).0 there)),
      (λ h. (told.are.exact w).1 ((same w).1 h)),
    );
  };
  is = told.is;
}

module _ (files : List Wad) (level : Level) (code : GameCode) (no_limit : W22 ≢ code) (no_flat : W25 ≢ code) where
  holds_alone : (w : GameWarning) → HoldsOf level code w ↔ HoldsIn (Some files) level code w
  holds_alone (UnknownSpecial linedef) = (λ h. h, λ h. h)
  holds_alone (ZeroTag linedef sectors) = (λ h. h, λ h. h)
  holds_alone (NeverCrossed linedef barrier) = (λ h. h, λ h. h)
  holds_alone (NoDestination linedef) = (λ h. h, λ h. h)
  holds_alone (OneSidedDoor linedef) = (λ h. h, λ h. h)
  holds_alone (ManyPlatforms linedef platforms) = (λ h. h, λ h. h)
  holds_alone (ManyCeilings linedef ceilings) = (λ h. h, λ h. h)
  holds_alone (Harmful linedef harm) = (λ h. h, λ h. h)
  holds_alone (DeadlyFloor sector) = (λ h. h, λ h. h)
  holds_alone NoExit = (λ h. h, λ h. h)
  holds_alone (Locked key linedefs skills) = (λ h. h, λ h. h)
  holds_alone (EndsThings thing follow) = (λ h. h, λ h. h)
  holds_alone (InNoSkill thing) = (λ h. h, λ h. h)
  holds_alone (NoTarget thing skills) = (λ h. h, λ h. h)
  holds_alone (ManyTargets thing skills) = (λ h. h, λ h. h)
  holds_alone (ManyScrolling linedefs) = (λ h. h, λ h. h)
  holds_alone (ManyPerpetual sectors) = (λ h. h, λ h. h)
  holds_alone (ManyStarts starts) = (λ h. h, λ h. h)
  holds_alone (LongSave bytes) = (λ h. h, λ h. h)
  holds_alone (LacksPatch texture) = (λ h. absurd (no_limit h.0), λ h. absurd (no_limit h.0))
  holds_alone (MisplacedFlat sector surface) = (λ h. absurd (no_flat h.0), λ h. absurd (no_flat h.0))

  pub ok_alone : {E : Type 0} (result : Result Cut E) → IfOk result (Tells (HoldsOf level code)) → IfOk result (Tells (HoldsIn (Some files) level code))
  ok_alone (Ok cut) told = tells_as (HoldsOf level code) (HoldsIn (Some files) level code) cut holds_alone told
  ok_alone (Err fault) told = told

-- the limits of a level alone are those before its textures
limits_alone : (files : List Wad) (level : Level) (w : GameWarning) → HoldsOf level W22 w ↔ (HoldsIn (Some files) level W22 w × (rank w < 4))
limits_alone files level (ManyScrolling n) = (λ h. (h, omega arith), λ h. h.0)
limits_alone files level (ManyPerpetual n) = (λ h. (h, omega arith), λ h. h.0)
limits_alone files level (ManyStarts n) = (λ h. (h, omega arith), λ h. h.0)
limits_alone files level (LongSave n) = (λ h. (h, omega arith), λ h. h.0)
limits_alone files level (LacksPatch texture) = (λ h. absurd h.1, λ h. absurd (omega (arith, h.1)))
limits_alone files level w = (λ h. absurd (let other = h.0 in cc), λ h. absurd (let other = h.0.0 in cc))

pub limits_below : (files : List Wad) (level : Level) (cut : Cut) → Tells (HoldsOf level W22) cut → TellsBelow (HoldsIn (Some files) level W22) 4 cut
limits_below files level cut told =
    tells_as (HoldsOf level W22) (λ w. HoldsIn (Some files) level W22 w × (rank w < 4)) cut (limits_alone files level) told
