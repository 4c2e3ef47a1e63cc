-- The files of a run (ours): what is known of each, and why one isn't read.
use Rattle.std.specs.Prelude.{◌≡◌, ℕ, ◌<◌, Bool, true, false, List, length, Option, Some, None, IfSome}
use Rattle.std.specs.List.{slice_get}
use Rattle.line_io.specs.Storage.{IsHeld}
use Rattle.line_io.specs.declared.input.TheConstants.{MAX_READ}
use Rattle.line_io.specs.declared.storage.StorageFault.{StorageFault}
use Rattle.line_io.specs.declared.storage.StorageFault.TheVariants as storage
use Rattle.lens_engines.specs.declared.object.FileRefusal.TheVariants.{Unopened, Unread, TooLarge, NoWad}
use Rattle.lens_reports.specs.declared.files.FileBytes.{FileBytes}
use Rattle.lens_reports.specs.declared.files.FileBytes.TheVariants as bytes
use Rattle.lens_reports.specs.declared.files.ReadFault.{ReadFault}
use Rattle.lens_reports.specs.declared.files.ReadFault.TheVariants.{Refused, Memory}

-- what is known of a file: its bytes, and whether it is sure that it can be read
pub record Known : Type 0 where
  pub bytes : Option (List ℕ)
  pub sure : Bool

-- these are its bytes, and no more than are read
abbrev pub IsKnownAs : Known → List ℕ → Type 0
IsKnownAs known bytes = IsHeld MAX_READ known.bytes bytes

-- why a file isn't read
abbrev pub RefusesKnown : Known → ReadFault → Type 0
RefusesKnown known (Refused Unopened) = known.sure ≡ false
RefusesKnown known (Refused Unread) = known.sure ≡ false
RefusesKnown known (Refused TooLarge) = IfSome known.bytes (λ bytes. MAX_READ < length bytes)
RefusesKnown known (Refused (NoWad why)) = ⊥
RefusesKnown known Memory = Unit {0}

-- a file isn't opened where the storage refuses it
abbrev pub IsAnswered : Type 0 → ReadFault → Type 0
IsAnswered refused (Refused Unopened) = refused
IsAnswered refused _ = Unit {0}

-- the faults of an input that was opened
abbrev pub IsOpenedFault : ReadFault → Type 0
IsOpenedFault fault = IsAnswered ⊥ fault

-- the file under a path of a storage: it may fail
abbrev pub at_path : Option (List ℕ) → Known
at_path held = record { bytes = held; sure = false }

-- the files under paths of a storage, at any place
abbrev pub stored : (List ℕ → Option (List ℕ)) → ℕ → List ℕ → Known
stored held place path = at_path (held path)

abbrev pub RefusesRead : Option (List ℕ) → ReadFault → Type 0
RefusesRead held fault = RefusesKnown (at_path held) fault

-- one of the files that a host holds is there, and can be read
abbrev pub lent_at : Option (List ℕ) → Known
lent_at None = record { bytes = None; sure = false }
lent_at (Some bytes) = record { bytes = Some bytes; sure = true }

-- those files, under any path
abbrev pub lent : List (List ℕ) → ℕ → List ℕ → Known
lent files place path = lent_at (slice_get files place)

-- the bytes of a file that was read, or is lent
abbrev pub bytes_in : {A : Type 0} → FileBytes A → List ℕ
bytes_in (bytes.Read vec) = vec.items
bytes_in (bytes.Lent slice) = slice.now

-- the fault of a run for a file that isn't read whole
abbrev pub read_fault_of : StorageFault → ReadFault
read_fault_of storage.Unopened = Refused Unopened
read_fault_of storage.Unread = Refused Unread
read_fault_of storage.TooLong = Refused TooLarge
read_fault_of storage.Memory = Memory
