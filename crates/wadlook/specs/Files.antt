-- The files of a run (ours): which refusal tells that one of them isn't read.
use Rattle.std.specs.Prelude.{◌≡◌, ℕ, ◌+◌, ◌<◌, List, length, IfSome, Option, ⊤}
use Rattle.line_io.specs.Storage.{IsReached, total_length}
use Rattle.line_io.specs.declared.input.TheConstants.{MAX_READ}
use Rattle.line_io.specs.declared.storage.FirstUnread.{FirstUnread}
use Rattle.line_io.specs.declared.storage.StorageFault.{StorageFault}
use Rattle.line_io.specs.declared.storage.StorageFault.TheVariants as read
use Rattle.look_engines.specs.declared.fault.RunFault.TheVariants as fault
use Rattle.wadlook.specs.declared.refusal.ProgramRefusal.{ProgramRefusal}
use Rattle.wadlook.specs.declared.refusal.ProgramRefusal.TheVariants.{Unreadable, TooLong, Run}

-- the refusal for a file at a place, which is numbered from 1
abbrev pub refusal_at : ℕ → StorageFault → ProgramRefusal
refusal_at place read.Unopened = Unreadable (place + 1)
refusal_at place read.Unread = Unreadable (place + 1)
refusal_at place read.TooLong = TooLong (place + 1)
refusal_at place read.Memory = Run fault.Memory

abbrev pub refusal_of : FirstUnread → ProgramRefusal
refusal_of first = refusal_at first.place first.fault

-- the files before file n, counted from 1, are read, and fit
pub record IsNumbered (held : List ℕ → Option (List ℕ)) (paths : List (List ℕ)) (n : ℕ) : Type 0 where
  pub place : ℕ
  pub number : n ≡ place + 1
  pub reached : IsReached MAX_READ held paths place

-- file n is the first that has more bytes than those before it leave
pub record IsTooLong (held : List ℕ → Option (List ℕ)) (paths : List (List ℕ)) (n : ℕ) : Type 0 where
  pub at : IsNumbered held paths n
  pub over : IfSome (held at.reached.path) (λ file. MAX_READ < total_length at.reached.files + length file)

-- why the files aren't read: one can't be read, they are too long, or a growth was refused; no refused file comes after one that is too long
abbrev pub RefusesPaths : (List ℕ → Option (List ℕ)) → List (List ℕ) → ProgramRefusal → Type 0
RefusesPaths held paths (Unreadable n) = IsNumbered held paths n
RefusesPaths held paths (TooLong n) = IsTooLong held paths n
RefusesPaths held paths (Run fault.Memory) = ⊤
RefusesPaths held paths _ = ⊥
