-- What is told of a level that isn't judged (ours): its format, and of extended nodes the reason why they are broken.
use Rattle.std.specs.Prelude.{◌≡◌, ℕ, ◌+◌, List, Option, Some, None}
use Rattle.level_starts.specs.Format.{IsFormat}
use Rattle.level_starts.specs.declared.format.Format.TheVariants as format
use Rattle.lens_texts.specs.declared.unread.Unread.{Unread}
use Rattle.lens_texts.specs.declared.unread.Unread.TheVariants.{Udmf, Incomplete, Hexen, Outside, Extended}
use Rattle.node_lumps.specs.Format.{format_of}
use Rattle.node_lumps.specs.Later.{Later}
use Rattle.node_lumps.specs.Reading.{AreBroken, AreNodes, Lumps}
use Rattle.node_lumps.specs.declared.broken.Broken.{Broken}
use Rattle.node_lumps.specs.declared.format.NodeFormat.{NodeFormat}
use Rattle.wad_dir.specs.Slice.{IsLump}
use Rattle.wad_dir.specs.Wad.{Wad}

-- the four lumps of a level in which later nodes stand
pub record AreNodeLumps (files : List Wad) (g : ℕ) (lumps : Lumps) : Type 0 where
  pub vertexes : IsLump files (g + 4) lumps.vertexes
  pub segs : IsLump files (g + 5) lumps.segs
  pub ssectors : IsLump files (g + 6) lumps.ssectors
  pub nodes : IsLump files (g + 7) lumps.nodes

-- why nodes of a format are broken, or that they aren't; of nodes that aren't read nothing is told
abbrev pub TellsBroken : Option NodeFormat → Lumps → Option Broken → Type 0
TellsBroken None lumps why = why ≡ None
TellsBroken (Some format) lumps None = (later : Later) × AreNodes format lumps later
TellsBroken (Some format) lumps (Some why) = AreBroken format lumps why

-- that is told of a level's extended nodes, whose format goes by their tag
pub record TellsNodes (files : List Wad) (g : ℕ) (tag : List ℕ) (why : Option Broken) : Type 0 where
  pub lumps : Lumps
  pub there : AreNodeLumps files g lumps
  pub tells : TellsBroken (format_of tag) lumps why

-- what is told of the level that starts at an entry, if it isn't judged
abbrev pub IsUnread : List Wad → ℕ → Unread → Type 0
IsUnread files g Udmf = IsFormat files g format.Udmf
IsUnread files g (Incomplete k) = IsFormat files g (format.Incomplete k)
IsUnread files g Hexen = IsFormat files g format.Hexen
IsUnread files g (Outside k) = IsFormat files g (format.Outside k)
IsUnread files g (Extended tag why) = IsFormat files g (format.Extended tag) × TellsNodes files g tag why
