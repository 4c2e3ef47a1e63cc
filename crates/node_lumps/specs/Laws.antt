-- Laws over the definitions alone (ours).
use Rattle.std.specs.Prelude.{◌≡◌, ◌⊎◌}
use Rattle.node_lumps.specs.Later.{Later}
use Rattle.node_lumps.specs.Reading.{AreBroken, AreNodes, Lumps}
use Rattle.node_lumps.specs.declared.broken.Broken.{Broken}
use Rattle.node_lumps.specs.declared.format.NodeFormat.{NodeFormat}

-- lumps have at most one reading
abbrev pub OneReading : Type 0
OneReading =
    (format : NodeFormat) (lumps : Lumps) (later other : Later) → AreNodes format lumps later
    → AreNodes format lumps other → later ≡ other

-- they are read or broken
abbrev pub ReadOrBroken : Type 0
ReadOrBroken =
    (format : NodeFormat) (lumps : Lumps)
    → ((later : Later) × AreNodes format lumps later) ⊎ ((why : Broken) × AreBroken format lumps why)

-- never both
abbrev pub NeverBoth : Type 0
NeverBoth =
    (format : NodeFormat) (lumps : Lumps) (later : Later) (why : Broken)
    → AreNodes format lumps later → ¬ AreBroken format lumps why

-- and for one reason at most
abbrev pub OneReason : Type 0
OneReason =
    (format : NodeFormat) (lumps : Lumps) (why other : Broken) → AreBroken format lumps why
    → AreBroken format lumps other → why ≡ other
