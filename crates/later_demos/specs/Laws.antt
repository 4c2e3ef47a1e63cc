-- Laws over the definitions alone (ours).
use Rattle.std.specs.Prelude.{◌≡◌, ◌⊎◌, ◌+◌, ◌≤◌, ℕ, Some, List, length, slice_index, take}
use Rattle.demo_lump.specs.Demo.{IsDemo as IsDoomDemo, RefusesDemo as RefusesDoom}
use Rattle.demo_lump.specs.Header.{IsVersion}
use Rattle.demo_lump.specs.declared.command.Command.{Command}
use Rattle.demo_lump.specs.declared.fault.DemoFault.{DemoFault}
use Rattle.demo_lump.specs.declared.header.Header.{Header}
use Rattle.later_demos.specs.Demo.{Demo, IsDemo}
use Rattle.later_demos.specs.Doom.{bare_demo, doom_fault}
use Rattle.later_demos.specs.Footer.{Footer, IsFooter}
use Rattle.later_demos.specs.Layout.{layout_of}
use Rattle.later_demos.specs.Refusal.{RefusesDemo}
use Rattle.later_demos.specs.declared.fault.LaterFault.{LaterFault}
use Rattle.later_demos.specs.declared.layout.Layout.{Layout}

-- bytes have at most one reading as a demo
abbrev pub OneReading : Type 0
OneReading = (bytes : List ℕ) (demo other : Demo) → IsDemo bytes demo → IsDemo bytes other → demo ≡ other

-- they are read as a demo or refused
abbrev pub ReadOrRefused : Type 0
ReadOrRefused =
    (bytes : List ℕ)
    → ((demo : Demo) × IsDemo bytes demo) ⊎ ((fault : LaterFault) × RefusesDemo bytes fault)

-- never both
abbrev pub NeverBoth : Type 0
NeverBoth =
    (bytes : List ℕ) (demo : Demo) (fault : LaterFault) → IsDemo bytes demo
    → ¬ RefusesDemo bytes fault

-- and one fault at most refuses them
abbrev pub OneRefusal : Type 0
OneRefusal =
    (bytes : List ℕ) (fault other : LaterFault) → RefusesDemo bytes fault
    → RefusesDemo bytes other → fault ≡ other

-- a demo of version 109, 110 or 111 is read as it is alone: the header is the first 13 bytes, and commands have no actions
abbrev pub DoomIsRead : Type 0
DoomIsRead =
    (bytes : List ℕ) (header : Header) (commands : List Command) (rest : List ℕ)
    → IsDoomDemo bytes header commands rest
    → IsDemo bytes (bare_demo header.version (take 13 bytes) commands rest)

-- and it is refused for the same reason
abbrev pub DoomIsRefused : Type 0
DoomIsRefused =
    (bytes : List ℕ) (fault : DemoFault) → IsVersion (slice_index bytes 0) → RefusesDoom bytes fault
    → RefusesDemo bytes (doom_fault (length bytes) fault)

-- the headers of a version have room for the players, and are short
abbrev pub HeadersHavePlayers : Type 0
HeadersHavePlayers =
    (version : ℕ) (layout : Layout) → layout_of version ≡ Some layout → (layout.players + 4 ≤ layout.size) × (layout.size ≤ 301)

-- bytes behind a marker tell one thing
abbrev pub OneFooter : Type 0
OneFooter = (rest : List ℕ) (footer other : Footer) → IsFooter rest footer → IsFooter rest other → footer ≡ other
