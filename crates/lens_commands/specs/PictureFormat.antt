-- The format of a level whose label is any entry (ours): where no level starts its first lump is the one that isn't there.
use Rattle.std.specs.Prelude.{◌≡◌, ◌⊎◌, ℕ, List}
use Rattle.lens_engines.specs.Unread.{IsUnread}
use Rattle.lens_texts.specs.declared.unread.Unread.{Unread}
use Rattle.lens_texts.specs.declared.unread.Unread.TheVariants.{Incomplete}
use Rattle.level_starts.specs.Format.{IsFormat}
use Rattle.level_starts.specs.Starts.{LevelStartsAt}
use Rattle.level_starts.specs.declared.format.Format.TheVariants.{Doom}
use Rattle.wad_dir.specs.Entries.{names}
use Rattle.wad_dir.specs.Wad.{Wad}

-- a level of Doom's format starts at an entry
abbrev pub IsDoomAt : List Wad → ℕ → Type 0
IsDoomAt files g = LevelStartsAt (names files) g × IsFormat files g Doom

-- what is told of the level that starts at an entry, if it isn't judged; if none starts there, its first lump is missing
abbrev pub IsUnreadAt : List Wad → ℕ → Unread → Type 0
IsUnreadAt files g unread =
    (LevelStartsAt (names files) g × IsUnread files g unread) ⊎ ((¬ LevelStartsAt (names files) g) × (unread ≡ Incomplete 1))
