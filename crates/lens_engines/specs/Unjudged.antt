-- The format of a level that isn't judged (ours).
use Rattle.std.specs.Prelude.{Bool, true, ◌&&◌, nat_lt}
use Rattle.lens_texts.specs.declared.unread.Unread.{Unread}
use Rattle.lens_texts.specs.declared.unread.Unread.TheVariants.{Udmf, Incomplete, Hexen, Outside, Extended}

-- the lump that decides it is one of the ten
abbrev pub names_lump : Unread → Bool
names_lump Udmf = true
names_lump (Incomplete k) = nat_lt 0 k && nat_lt k 11
names_lump Hexen = true
names_lump (Outside k) = nat_lt 0 k && nat_lt k 11
names_lump (Extended tag why) = true
