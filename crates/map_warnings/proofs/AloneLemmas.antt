-- What is told of a level alone is told of it with its files, but for textures and flats.
use Rattle.std.proofs.Common.{◌≡◌, ◌≢◌, ◌↔◌, List, Option}
use Rattle.std.specs.Prelude.{IfOk, Result, Ok, Err}
use Rattle.map_level.specs.Level.{Level}
use Rattle.wad_dir.specs.Wad.{Wad}
use Rattle.map_warnings.specs.declared.warning.Warning.{Warning}
use Rattle.map_warnings.specs.declared.warning.Warning.TheVariants.{Unclosed, Bare, InVoid, Untagged, Mismatched, Twin, NoStart, FewStarts, UnknownTexture, UnknownFlat, UnknownThing, Game}
use Rattle.level_codes.specs.declared.code.WarningCode.{WarningCode}
use Rattle.level_codes.specs.declared.code.WarningCode.TheVariants.{W9, W10}
use Rattle.game_warnings.specs.Warnings as told
use Rattle.game_warnings.specs.declared.code.GameCode.{GameCode}
use Rattle.map_warnings.specs.Game.{report_code}
use Rattle.map_warnings.specs.Holds.{HoldsIn, HoldsOf}
use Rattle.map_warnings.specs.Warnings.{Cut, Tells}

module _ (files : Option (List Wad)) (level : Level) (code : WarningCode) (no_texture : W9 ≢ code) (no_flat : W10 ≢ code) (no_game : (c : GameCode) → report_code c ≢ code) where
  holds_alone : (w : Warning) → HoldsOf level code w ↔ HoldsIn files level code w
  holds_alone (Unclosed sector vertex) = (λ h. h, λ h. h)
  holds_alone (Bare linedef side part) = (λ h. h, λ h. h)
  holds_alone (InVoid thing) = (λ h. h, λ h. h)
  holds_alone (Untagged linedef) = (λ h. h, λ h. h)
  holds_alone (Mismatched ssector first other) = (λ h. h, λ h. h)
  holds_alone (Twin linedef earlier) = (λ h. h, λ h. h)
  holds_alone (NoStart player) = (λ h. h, λ h. h)
  holds_alone (FewStarts starts) = (λ h. h, λ h. h)
  holds_alone (UnknownTexture sidedef part) = (λ h. absurd (no_texture h.0), λ h. absurd (no_texture h.0))
  holds_alone (UnknownFlat sector plane) = (λ h. absurd (no_flat h.0), λ h. absurd (no_flat h.0))
  holds_alone (UnknownThing thing) = (λ h. h, λ h. h)
  holds_alone (Game w) = (λ h. absurd (no_game (told.code_of w) h.0), λ h. absurd (no_game (told.code_of w) h.0))

  tells_alone : (cut : Cut) → Tells (HoldsOf level code) cut → Tells (HoldsIn files level code) cut
  tells_alone cut told = record {
    all = told.all;
    are = record {
      ascending = told.are.ascending;
      exact = λ w. (
        (λ there. (holds_alone w).0 ((told.are.exact w).0 there)),
        (λ h. (told.are.exact w).1 ((holds_alone w).1 h)),
      );
    };
    is = told.is;
  }

  pub ok_alone : {E : Type 0} (result : Result Cut E) → IfOk result (Tells (HoldsOf level code)) → IfOk result (Tells (HoldsIn files level code))
  ok_alone (Ok cut) told = tells_alone cut told
  ok_alone (Err fault) told = told
