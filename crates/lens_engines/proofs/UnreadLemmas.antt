-- Facts about levels that aren't judged.
use Rattle.std.proofs.Common.{◌≡◌, ℕ, List, Option, Some, None, arith}
use Rattle.std.specs.Prelude.{IfSome}
use Rattle.level_starts.specs.Format.{IsFormat}
use Rattle.level_starts.specs.declared.format.Format.TheVariants.{Doom}
use Rattle.lens_texts.specs.Unread.{NamesLump, unread_format}
use Rattle.lens_texts.specs.declared.unread.Unread.{Unread}
use Rattle.lens_texts.specs.declared.unread.Unread.TheVariants.{Udmf, Incomplete, Hexen, Outside, Extended}
use Rattle.lens_engines.specs.Unread.{IsUnread}
use Rattle.wad_dir.specs.Wad.{Wad}

-- what is told has the level's format
pub format_of_unread : (files : List Wad) (g : ℕ) (unread : Unread) → IsUnread files g unread → IsFormat files g (unread_format unread)
format_of_unread files g Udmf is = is
format_of_unread files g (Incomplete k) is = is
format_of_unread files g Hexen is = is
format_of_unread files g (Outside k) is = is
format_of_unread files g (Extended tag why) is = is.0

-- which isn't Doom's
pub unread_is_other : (unread : Unread) → unread_format unread ≡ Doom → ⊥
unread_is_other Udmf same = cc
unread_is_other (Incomplete k) same = cc
unread_is_other Hexen same = cc
unread_is_other (Outside k) same = cc
unread_is_other (Extended tag why) same = cc

-- the lump that decides it is one of the ten
pub lump_of_unread : (files : List Wad) (g : ℕ) (unread : Unread) → IsUnread files g unread → NamesLump unread
lump_of_unread files g Udmf is = tt
lump_of_unread files g (Incomplete k) is = (omega (arith, is.1.from), is.1.to)
lump_of_unread files g Hexen is = tt
lump_of_unread files g (Outside k) is = (is.1.from, is.1.to)
lump_of_unread files g (Extended tag why) is = tt

-- of whatever is told
pub lumps_of_unread : (files : List Wad) (g : ℕ) (told : Option Unread) → IfSome told (IsUnread files g) → IfSome told NamesLump
lumps_of_unread files g None is = tt
lumps_of_unread files g (Some unread) is = lump_of_unread files g unread is
