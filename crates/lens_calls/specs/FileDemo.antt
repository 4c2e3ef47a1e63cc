-- The demo in a file in memory (ours): whether the file has one, and what is told where it has none.
use Rattle.std.specs.Prelude.{◌≡◌, ◌⊎◌, ℕ, ◌<◌, ◌≤◌, List, [], length, None}
use Rattle.demo_engines.specs.RefusalText.{refusal_line as demo_refusal_line}
use Rattle.later_demos.specs.Demo.{Demo, IsDemo}
use Rattle.later_demos.specs.FaultText.{fault_text}
use Rattle.later_demos.specs.Refusal.{RefusesDemo}
use Rattle.later_demos.specs.declared.fault.LaterFault.{LaterFault}
use Rattle.lens_engines.specs.declared.object.FileRefusal.TheVariants.{TooLarge}
use Rattle.lens_reports.specs.Run.{refusal_line}
use Rattle.line_io.specs.declared.input.TheConstants.{MAX_READ}

-- the demo in a file, which isn't larger than what is read
pub record HasDemo (bytes : List ℕ) (demo : Demo) : Type 0 where
  pub few : length bytes ≤ MAX_READ
  pub is : IsDemo bytes demo

-- it has none
abbrev pub HasNone : List ℕ → Type 0
HasNone bytes = (MAX_READ < length bytes) ⊎ ((fault : LaterFault) × RefusesDemo bytes fault)

-- the report on a file that is larger than what is read
pub record TellsLarge (path bytes text : List ℕ) : Type 0 where
  pub large : MAX_READ < length bytes
  pub is : text ≡ refusal_line path TooLarge

-- and on one that has no demo
pub record TellsFault (path bytes text : List ℕ) : Type 0 where
  pub few : length bytes ≤ MAX_READ
  pub fault : LaterFault
  pub refuses : RefusesDemo bytes fault
  pub is : text ≡ demo_refusal_line path None (fault_text fault)

-- nothing is told of one that has a demo
pub record TellsNothing (bytes text : List ℕ) : Type 0 where
  pub demo : Demo
  pub has : HasDemo bytes demo
  pub none : text ≡ []

-- one of the three
abbrev pub TellsFile : List ℕ → List ℕ → List ℕ → Type 0
TellsFile path bytes text = TellsLarge path bytes text ⊎ TellsFault path bytes text ⊎ TellsNothing bytes text
