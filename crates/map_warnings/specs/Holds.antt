-- Where each warning holds (ours).
use Rattle.std.specs.Prelude.{◌≡◌, true, List, Option, None, IsSomeAnd}
use Rattle.game_warnings.specs.Holds as game
use Rattle.game_warnings.specs.Misplaced.{HasFlatEnds}
use Rattle.map_level.specs.Level.{Level}
use Rattle.map_warnings.specs.Warnings.{code_of, ends_game}
use Rattle.map_warnings.specs.Closing.{IsUnclosed}
use Rattle.map_warnings.specs.Bare.{IsBare}
use Rattle.map_warnings.specs.References.{HasReferences}
use Rattle.map_warnings.specs.Tag.{IsUntagged}
use Rattle.map_warnings.specs.Void.{IsInVoid}
use Rattle.map_tree.specs.Sound.{IsSound}
use Rattle.map_warnings.specs.Facing.{IsMismatched}
use Rattle.map_warnings.specs.Twin.{IsTwin}
use Rattle.map_warnings.specs.Starts.{IsWithoutStart, AreFewStarts}
use Rattle.map_warnings.specs.Listed.{HasFlats, HasTextures}
use Rattle.map_warnings.specs.UnknownTexture.{IsUnknownTexture}
use Rattle.map_warnings.specs.UnknownFlat.{IsUnknownFlat}
use Rattle.map_warnings.specs.UnknownThing.{IsUnknownThing}
use Rattle.wad_dir.specs.Wad.{Wad}
use Rattle.map_warnings.specs.declared.warning.Warning.{Warning}
use Rattle.map_warnings.specs.declared.warning.Warning.TheVariants.{Unclosed, Bare, InVoid, Untagged, Mismatched, Twin, NoStart, FewStarts, UnknownTexture, UnknownFlat, UnknownThing, Game}
use Rattle.level_codes.specs.declared.code.WarningCode.{WarningCode}
use Rattle.level_codes.specs.Codes.{wants_of}
use Rattle.level_codes.specs.declared.code.ReportCode.TheVariants as report
use Rattle.level_codes.specs.declared.kind.Wants.{Wants}
use Rattle.level_codes.specs.declared.kind.Wants.TheVariants.{Lumps, References, Soundness, Textures, Flats, FlatEnds}

-- a warning holds of a level; the level's textures and flats are those of some files, if these are known
abbrev pub Holds : Option (List Wad) → Level → Warning → Type 0
Holds files level (Unclosed sector vertex) = IsUnclosed level sector vertex
Holds files level (Bare linedef side part) = IsBare level linedef side part
Holds files level (InVoid thing) = IsInVoid level thing
Holds files level (Untagged linedef) = IsUntagged level linedef
Holds files level (Mismatched ssector first other) = IsMismatched level ssector first other
Holds files level (Twin linedef earlier) = IsTwin level linedef earlier
Holds files level (NoStart player) = IsWithoutStart level player
Holds files level (FewStarts starts) = AreFewStarts level starts
Holds files level (UnknownTexture sidedef part) = IsSomeAnd files (λ known. IsUnknownTexture known level sidedef part)
Holds files level (UnknownFlat sector plane) = IsSomeAnd files (λ known. IsUnknownFlat known level sector plane)
Holds files level (UnknownThing thing) = IsUnknownThing level thing
Holds files level (Game w) = game.Holds files level w

-- a warning of a code holds of a level with its files
abbrev pub HoldsIn : Option (List Wad) → Level → WarningCode → Warning → Type 0
HoldsIn files level code w = (code_of w ≡ code) × Holds files level w

-- a warning of a code holds of a level alone
abbrev pub HoldsOf : Level → WarningCode → Warning → Type 0
HoldsOf level code w = HoldsIn None level code w

-- a level has what is wanted of it; its textures and flats are those of some files, if these are known
abbrev pub Has : Option (List Wad) → Level → Wants → Type 0
Has files level Lumps = Unit {0}
Has files level References = HasReferences level
Has files level Soundness = IsSound level
Has files level Textures = HasReferences level × IsSomeAnd files HasTextures
Has files level Flats = HasReferences level × IsSomeAnd files HasFlats
Has files level FlatEnds = HasReferences level × IsSomeAnd files HasFlatEnds

-- warnings of a code are looked for, by what the code wants of the level
abbrev pub IsLookedFor : Option (List Wad) → Level → WarningCode → Type 0
IsLookedFor files level code = Has files level (wants_of (report.Warning code))

-- a warning of a code is reported for a level
abbrev pub IsWarning : Option (List Wad) → Level → WarningCode → Warning → Type 0
IsWarning files level code w = IsLookedFor files level code × HoldsIn files level code w

-- the released game ends at a warning of a code that is reported for a level, or writes where nothing of its own is
pub record EndsAt (files : Option (List Wad)) (level : Level) (code : WarningCode) (w : Warning) : Type 0 where
  pub reported : IsWarning files level code w
  pub ends : ends_game w ≡ true
