-- A file that should hold a demo (ours): what is read of it, and what is told where it holds none.
use Rattle.std.specs.Prelude.{◌≡◌, ◌⊎◌, ℕ, ◌≤◌, List, [], length, Option, Some, None}
use Rattle.std.specs.Io.KnownBytes.{Keeps}
use Rattle.demo_engines.specs.RefusalText.{refusal_line as demo_refusal_line}
use Rattle.later_demos.specs.Demo.{Demo, IsDemo}
use Rattle.later_demos.specs.FaultText.{fault_text}
use Rattle.later_demos.specs.Refusal.{RefusesDemo}
use Rattle.later_demos.specs.declared.fault.LaterFault.{LaterFault}
use Rattle.lens_reports.specs.Files.{RefusesRead}
use Rattle.lens_reports.specs.Run.{refusal_line}
use Rattle.lens_commands.specs.declared.given.Given.{Given}
use Rattle.lens_commands.specs.declared.given.Given.TheVariants as given
use Rattle.lens_reports.specs.declared.files.ReadFault.TheVariants.{Refused}
use Rattle.line_io.specs.declared.input.TheConstants.{MAX_READ}

-- what was read of a file that holds these bytes, where they are known: all of them, and no more than are read
abbrev pub IsGiven : Option (List ℕ) → Given → Type 0
IsGiven held (given.Read bytes) = Keeps held (Some bytes.items) × (length bytes.items ≤ MAX_READ)
IsGiven held (given.Unread refusal) = RefusesRead held (Refused refusal)

-- the demo in it
abbrev pub HasDemo : Given → Demo → Type 0
HasDemo (given.Read bytes) demo = IsDemo bytes.items demo
HasDemo (given.Unread refusal) demo = ⊥

-- it has none
abbrev pub HasNone : Given → Type 0
HasNone (given.Read bytes) = (fault : LaterFault) × RefusesDemo bytes.items fault
HasNone (given.Unread refusal) = Unit {0}

-- the report on a file: nothing if it holds a demo, else why it holds none
abbrev pub TellsGiven : List ℕ → Given → List ℕ → Type 0
TellsGiven path (given.Read bytes) text =
    ((demo : Demo) × IsDemo bytes.items demo × (text ≡ []))
    ⊎ ((fault : LaterFault) × RefusesDemo bytes.items fault × (text ≡ demo_refusal_line path None (fault_text fault)))
TellsGiven path (given.Unread refusal) text = text ≡ refusal_line path refusal
