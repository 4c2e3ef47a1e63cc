-- What is told of a level that isn't judged (ours): its format, with what decides it.
use Rattle.std.specs.Prelude.{◌≤◌}
use Rattle.level_starts.specs.declared.format.Format.{Format}
use Rattle.level_starts.specs.declared.format.Format.TheVariants as format
use Rattle.lens_texts.specs.declared.unread.Unread.{Unread}
use Rattle.lens_texts.specs.declared.unread.Unread.TheVariants.{Udmf, Incomplete, Hexen, Outside, Extended}

-- the level's format
abbrev pub unread_format : Unread → Format
unread_format Udmf = format.Udmf
unread_format (Incomplete k) = format.Incomplete k
unread_format Hexen = format.Hexen
unread_format (Outside k) = format.Outside k
unread_format (Extended tag why) = format.Extended tag

-- the lump that decides the format is one of the ten
abbrev pub NamesLump : Unread → Type 0
NamesLump (Incomplete k) = (1 ≤ k) × (k ≤ 10)
NamesLump (Outside k) = (1 ≤ k) × (k ≤ 10)
NamesLump _ = Unit {0}
