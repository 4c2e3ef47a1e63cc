-- Files under paths (ours): what they hold, and how much of it is read.
use Rattle.std.specs.Prelude.{◌≡◌, ℕ, ◌+◌, ◌<◌, ◌≤◌, List, [], ◌∷◌, ◌++◌, length, map, min, sum_by, Option, Some, IfSome, ⊤, ◌⊎◌}
use Rattle.std.specs.Io.KnownBytes.{Keeps}
use Rattle.std.specs.declared.vec.Vec.{Vec}
use Rattle.line_io.specs.declared.input.TheConstants.{MAX_READ}
use Rattle.line_io.specs.declared.storage.FirstUnread.{FirstUnread}
use Rattle.line_io.specs.declared.storage.StorageFault.{StorageFault}
use Rattle.line_io.specs.declared.storage.StorageFault.TheVariants.{Unopened, Unread, TooLong, Memory}

-- the bytes of files that were read
abbrev pub bytes_of : {A : Type 0} → List (Vec ℕ A) → List (List ℕ)
bytes_of files = map (λ file. file.items) files

-- these are all bytes of a file, where they are known, and no more than a limit
pub record IsHeld (limit : ℕ) (held : Option (List ℕ)) (file : List ℕ) : Type 0 where
  pub keeps : Keeps held (Some file)
  pub few : length file ≤ limit

-- why a file isn't read, if at most `limit` bytes may be: a file that has no more is never too long
abbrev pub RefusesFile : ℕ → Option (List ℕ) → StorageFault → Type 0
RefusesFile limit held Unopened = ⊤
RefusesFile limit held Unread = ⊤
RefusesFile limit held TooLong = IfSome held (λ file. limit < length file)
RefusesFile limit held Memory = ⊤

-- the faults of a file that was opened
abbrev pub IsOpenedFault : StorageFault → Type 0
IsOpenedFault Unopened = ⊥
IsOpenedFault _ = ⊤

-- what a storage answered where a file isn't read: no file, or one with the bytes that are held; without memory it may not have been asked
abbrev pub IsAnswered : {File : Type 0} → (File → Option (List ℕ)) → Option (List ℕ) → Type 0 → StorageFault → Type 0
IsAnswered {File} remaining held refused Unopened = refused
IsAnswered {File} remaining held refused Memory = ⊤
IsAnswered {File} remaining held refused _ = (file : File) × Keeps held (remaining file)

-- how many bytes files have together
abbrev pub total_length : List (List ℕ) → ℕ
total_length files = sum_by length files

-- the files are what is held under the paths, in order, where that is known
abbrev pub AreHeld : (List ℕ → Option (List ℕ)) → List (List ℕ) → List (List ℕ) → Type 0
AreHeld held [] [] = ⊤
AreHeld held (path ∷ paths) (file ∷ files) = IsHeld MAX_READ (held path) file × AreHeld held paths files
AreHeld held _ _ = ⊥

-- the files before a place were read, and have together at most `most` bytes
pub record IsReached (most : ℕ) (held : List ℕ → Option (List ℕ)) (paths : List (List ℕ)) (place : ℕ) : Type 0 where
  pub before : List (List ℕ)
  pub path : List ℕ
  pub after : List (List ℕ)
  pub stands : paths ≡ before ++ path ∷ after
  pub placed : place ≡ length before
  pub files : List (List ℕ)
  pub read : AreHeld held before files
  pub fits : total_length files ≤ most

-- why a file isn't read, if it may have MAX_READ bytes, and no more than the files before it leave
abbrev pub RefusesNext : ℕ → List (List ℕ) → Option (List ℕ) → StorageFault → Type 0
RefusesNext most files held TooLong = IfSome held (λ file. (MAX_READ < length file) ⊎ (most < total_length files + length file))
RefusesNext most files held fault = ⊤

-- the first file that isn't read, and why
pub record RefusesFiles (most : ℕ) (held : List ℕ → Option (List ℕ)) (paths : List (List ℕ)) (first : FirstUnread) : Type 0 where
  pub reached : IsReached most held paths first.place
  pub why : RefusesNext most reached.files (held reached.path) first.fault
