-- The numbers with which calls end (ours).
use Rattle.std.specs.Prelude.{ℕ}
use Rattle.demo_lump.specs.declared.fault.DemoFault.{DemoFault}
use Rattle.demo_lump.specs.declared.fault.DemoFault.TheVariants as demo
use Rattle.map_level.specs.declared.level.LevelFault.{LevelFault}
use Rattle.map_level.specs.declared.level.LevelFault.TheVariants as level
use Rattle.wad_dir.specs.declared.lump.LumpFault.TheVariants as lump
use Rattle.wad_dir.specs.declared.packer.PackFault.TheVariants as pack
use Rattle.wad_dir.specs.declared.wad.WadFault.{WadFault}
use Rattle.wad_dir.specs.declared.wad.WadFault.TheVariants as wad
use Rattle.look_engines.specs.declared.fault.RunFault.{RunFault}
use Rattle.look_engines.specs.declared.fault.RunFault.TheVariants as fault

-- the number of why a file has no directory
abbrev pub wad_number_of : WadFault → ℕ
wad_number_of wad.Short = 4
wad_number_of wad.Magic = 5
wad_number_of wad.Count = 6
wad_number_of wad.Directory = 7

-- the number of why there is no level
abbrev pub level_number_of : LevelFault → ℕ
level_number_of level.NoLabel = 8
level_number_of (level.Missing k) = 9
level_number_of (level.Outside k) = 10

-- the number of why bytes are no demo
abbrev pub demo_number_of : DemoFault → ℕ
demo_number_of demo.Empty = 12
demo_number_of (demo.Version v) = 13
demo_number_of demo.ShortHeader = 14
demo_number_of demo.NoPlayers = 15
demo_number_of (demo.NoMarker place) = 16

-- the number of a fault, never 0 and none of those that stand beside it in `status`
abbrev pub number_of : RunFault → ℕ
number_of fault.Audit = 1
number_of fault.Memory = 2
number_of (fault.Pack pack.Memory) = 2
number_of (fault.Set n why) = wad_number_of why
number_of (fault.Level why) = level_number_of why
number_of (fault.Lump lump.NoSuch) = 9
number_of (fault.Lump lump.Outside) = 10
number_of (fault.Pack pack.TooLarge) = 11
number_of (fault.Demo why) = demo_number_of why
number_of fault.NoBlockMap = 19
number_of fault.Read = 25
number_of fault.Write = 26
number_of fault.TooLong = 27

-- the numbers of ends that no fault stands for: there is no room for the answer
abbrev pub no_room_number : ℕ
no_room_number = 3

-- the bounds are no rectangle's
abbrev pub no_rect_number : ℕ
no_rect_number = 17

-- a number is none of the level's sectors
abbrev pub no_sector_number : ℕ
no_sector_number = 23

-- REJECT ends before the bit
abbrev pub unknown_number : ℕ
unknown_number = 24
