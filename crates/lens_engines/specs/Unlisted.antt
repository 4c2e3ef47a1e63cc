-- Which names no file lists, so that W9, W10 or W25 weren't looked for, though they were asked for (ours).
use Rattle.std.specs.Prelude.{◌≡◌, ◌↔◌, ◌||◌, Bool, not, true, false, List, [], ◌++◌, ℕ, Option, IsSomeAnd, IsTrue, codes}
use Rattle.map_warnings.specs.Listed.{HasFlatEnd, HasFlats, HasTextures}
use Rattle.level_codes.specs.declared.code.ReportCode.TheVariants as report
use Rattle.level_codes.specs.declared.code.WarningCode.{WarningCode}
use Rattle.level_codes.specs.declared.code.WarningCode.TheVariants.{W9, W10, W25}
use Rattle.wad_dir.specs.Wad.{Wad}
use Rattle.lens_engines.specs.Ignored.{ignores}
use Rattle.level_codes.specs.declared.set.CodeSet.{CodeSet}
use Rattle.lens_engines.specs.declared.unlisted.Unlisted.{Unlisted}

-- all are listed
abbrev pub none_unlisted : Unlisted
none_unlisted = record { textures = false; flats = false; flat_start = false; flat_end = false }

-- whether W25 wasn't looked for, and whether none wasn't
abbrev pub lacks_ends : Unlisted → Bool
lacks_ends unlisted = unlisted.flat_start || unlisted.flat_end

abbrev pub is_none : Unlisted → Bool
is_none unlisted = not ((unlisted.textures || unlisted.flats) || lacks_ends unlisted)

-- a code isn't looked for as known files don't list something, unless it is ignored
abbrev pub LacksFor : CodeSet → Option (List Wad) → (List Wad → Type 0) → WarningCode → Type 0
LacksFor ignored files lists code = IsSomeAnd files (λ known. ¬ lists known) × (ignores ignored (report.Warning code) ≡ false)

-- of a level with these files, where they are known: W9 where no lump of textures is found, W10 where no entry begins the flats, W25 where none begins or
-- where none ends them
pub record AreUnlisted (ignored : CodeSet) (files : Option (List Wad)) (unlisted : Unlisted) : Type 0 where
  pub textures : IsTrue unlisted.textures ↔ LacksFor ignored files HasTextures W9
  pub flats : IsTrue unlisted.flats ↔ LacksFor ignored files HasFlats W10
  pub flat_start : IsTrue unlisted.flat_start ↔ LacksFor ignored files HasFlats W25
  pub flat_end : IsTrue unlisted.flat_end ↔ LacksFor ignored files HasFlatEnd W25

-- of levels together: those of any
abbrev pub unlisted_with : Unlisted → Unlisted → Unlisted
unlisted_with a b = record {
  textures = a.textures || b.textures;
  flats = a.flats || b.flats;
  flat_start = a.flat_start || b.flat_start;
  flat_end = a.flat_end || b.flat_end;
}

-- which weren't, of W9, W10 and W25
abbrev pub codes_at : Bool → Bool → Bool → List ℕ
codes_at true true true = codes "W9, W10, W25"
codes_at true true false = codes "W9, W10"
codes_at true false true = codes "W9, W25"
codes_at true false false = codes "W9"
codes_at false true true = codes "W10, W25"
codes_at false true false = codes "W10"
codes_at false false true = codes "W25"
codes_at false false false = []

abbrev pub unlisted_codes : Unlisted → List ℕ
unlisted_codes unlisted = codes_at unlisted.textures unlisted.flats (lacks_ends unlisted)

-- what lacks, of TEXTURE1, F_START and F_END
abbrev pub names_at : Bool → Bool → Bool → List ℕ
names_at true true true = codes "TEXTURE1, F_START, F_END"
names_at true true false = codes "TEXTURE1, F_START"
names_at true false true = codes "TEXTURE1, F_END"
names_at true false false = codes "TEXTURE1"
names_at false true true = codes "F_START, F_END"
names_at false true false = codes "F_START"
names_at false false true = codes "F_END"
names_at false false false = []

abbrev pub unlisted_names : Unlisted → List ℕ
unlisted_names unlisted = names_at unlisted.textures (unlisted.flats || unlisted.flat_start) unlisted.flat_end

-- which weren't, why, and how to have them looked for
abbrev pub unlisted_note : Unlisted → List ℕ
unlisted_note unlisted =
    unlisted_codes unlisted ++ (codes " weren't looked for: no file has " ++ (unlisted_names unlisted ++ codes "; name the game's with --base"))
