-- Why a run stopped, as text (ours): the refusal that the program prints.
use Rattle.std.specs.Prelude.{ℕ, List, ◌++◌, codes}
use Rattle.std.specs.Fmt.{decimal}
use Rattle.demo_lump.specs.declared.fault.DemoFault.{DemoFault}
use Rattle.demo_lump.specs.declared.fault.DemoFault.TheVariants as demo
use Rattle.map_level.specs.declared.level.LevelFault.{LevelFault}
use Rattle.map_level.specs.declared.level.LevelFault.TheVariants as level
use Rattle.wad_dir.specs.declared.lump.LumpFault.{LumpFault}
use Rattle.wad_dir.specs.declared.lump.LumpFault.TheVariants as lump
use Rattle.wad_dir.specs.declared.packer.PackFault.{PackFault}
use Rattle.wad_dir.specs.declared.packer.PackFault.TheVariants as pack
use Rattle.wad_dir.specs.declared.wad.WadFault.{WadFault}
use Rattle.wad_dir.specs.declared.wad.WadFault.TheVariants as file
use Rattle.look_engines.specs.declared.fault.RunFault.{RunFault}
use Rattle.look_engines.specs.declared.fault.RunFault.TheVariants.{Set, Lump, Level, Audit, NoBlockMap, Demo, Pack, Read, Write, TooLong, Memory}

-- why a file isn't read
abbrev pub file_text : WadFault → List ℕ
file_text file.Short = codes "1 short"
file_text file.Magic = codes "2 magic"
file_text file.Count = codes "3 count"
file_text file.Directory = codes "4 directory"

-- why there is no lump
abbrev pub lump_text : LumpFault → List ℕ
lump_text lump.NoSuch = codes "5 no such lump"
lump_text lump.Outside = codes "6 outside file"

-- why lumps aren't packed
abbrev pub pack_text : PackFault → List ℕ
pack_text pack.TooLarge = codes "7 too large"
pack_text pack.Memory = codes "memory"

-- why there is no level
abbrev pub level_text : LevelFault → List ℕ
level_text level.NoLabel = codes "8 no label"
level_text (level.Missing k) = codes "F1 " ++ decimal k
level_text (level.Outside k) = codes "F2 " ++ decimal k

-- why bytes are no demo
abbrev pub demo_text : DemoFault → List ℕ
demo_text demo.Empty = codes "demo 1"
demo_text (demo.Version version) = codes "demo 2 version " ++ decimal version
demo_text demo.ShortHeader = codes "demo 3"
demo_text demo.NoPlayers = codes "demo 4"
demo_text (demo.NoMarker place) = codes "demo 5 at " ++ decimal place

-- why a run stopped
abbrev pub fault_text : RunFault → List ℕ
fault_text (Set n fault) = codes "file " ++ (decimal n ++ (codes ": " ++ file_text fault))
fault_text (Lump fault) = lump_text fault
fault_text (Level fault) = level_text fault
fault_text Audit = codes "audit"
fault_text NoBlockMap = codes "no blockmap"
fault_text (Demo fault) = demo_text fault
fault_text (Pack fault) = pack_text fault
fault_text Read = codes "read"
fault_text Write = codes "write"
fault_text TooLong = codes "too long"
fault_text Memory = codes "memory"
