-- How often the fire button is held in a demo (ours).
use Rattle.std.specs.Prelude.{◌≡◌, ℕ, ◌+◌, ◌%◌, ◌==◌, ◌&&◌, nat_lt, Bool, true, List, [], length, Result, IfOk, IfErr, IfSome, count_by}
use Rattle.std.specs.Io.KnownBytes.{Consumes}
use Rattle.le_rec.specs.Source.{SourceState}
use Rattle.demo_lump.specs.Demo.{IsDemo, RefusesDemo}
use Rattle.demo_lump.specs.declared.command.Command.{Command}
use Rattle.demo_lump.specs.declared.fault.StreamFault.{StreamFault}
use Rattle.demo_lump.specs.declared.fault.StreamFault.TheVariants.{Demo, Read, TooLong}
use Rattle.demo_lump.specs.declared.header.Header.{Header}
use Rattle.demo_lump.specs.declared.intake.TheConstants.{MAX_READ}

-- the lowest bit of the buttons, where the highest one isn't set (BT_ATTACK and BT_SPECIAL of d_event.h)
abbrev pub is_firing : Command → Bool
is_firing command = nat_lt command.buttons 128 && (command.buttons % 2 == 1)

-- bytes are a demo up to its marker, of which so many commands hold the fire button
pub record HoldsFire (bytes : List ℕ) (firing : ℕ) : Type 0 where
  pub header : Header
  pub commands : List Command
  pub demo : IsDemo bytes header commands []
  pub counted : firing ≡ count_by is_firing commands

-- when each error comes: what the source had is no demo; it has failed; it gave the byte past the limit
abbrev pub FiringFault : SourceState → Bool → ℕ → StreamFault → Type 0
FiringFault source failed taken (Demo fault) = IfSome source.left (λ bytes. RefusesDemo bytes fault)
FiringFault source failed taken Read = failed ≡ true
FiringFault source failed taken TooLong = taken ≡ MAX_READ + 1

-- counting them from a source, and which bytes that takes from it
pub record CountsFiring (source source' : SourceState) (result : Result ℕ StreamFault) : Type 0 where
  pub read : List ℕ
  pub given : Consumes source.left source'.left read
  pub counted : IfOk result (HoldsFire read)
  pub fault : IfErr result (FiringFault source source'.failed (length read))
