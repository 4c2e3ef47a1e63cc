-- What a command finds before it reads and writes, or why it finds nothing (ours): a chain, each stage with the reasons of those before it.
use Rattle.std.specs.Prelude.{◌≡◌, ℕ, List, All, map}
use Rattle.std.specs.declared.vec.Vec.{Vec}
use Rattle.le_rec.specs.Name.{query_of}
use Rattle.map_level.specs.Findings.{NoFaultHolds}
use Rattle.map_level.specs.LinkFaults.{LinkHolds}
use Rattle.map_level.specs.Opening.{IsLevel, RefusesLevel}
use Rattle.map_level.specs.Level.{Level}
use Rattle.map_level.specs.declared.reading.Reading.{Reading}
use Rattle.map_tree.specs.Sound.{IsSound}
use Rattle.wad_dir.specs.Wad.{Wad, IsRead}
use Rattle.wad_dir.specs.Refusal.{IsFirstRefused}
use Rattle.look_engines.specs.declared.fault.RunFault.{RunFault}
use Rattle.look_engines.specs.declared.fault.RunFault.TheVariants as fault

-- what the files hold
abbrev pub bytes_of : {A : Type 0} → List (Vec ℕ A) → List (List ℕ)
bytes_of files = map (λ file. file.items) files

-- the files' bytes, read as directories
pub record AreRead (bytes : List (List ℕ)) (files : List Wad) : Type 0 where
  pub of_bytes : map (λ file. file.bytes) files ≡ bytes
  pub each : All IsRead files

-- why files aren't read: the first that has no directory, or a growth was refused. Room for their list is made before any is read, so want
-- of memory says nothing of them.
abbrev pub RefusesFiles : List (List ℕ) → RunFault → Type 0
RefusesFiles bytes (fault.Set n why) = IsFirstRefused bytes n why
RefusesFiles bytes fault.Memory = Unit {0}
RefusesFiles bytes _ = ⊥

-- the level of the files' name
pub record IsOpened (bytes : List (List ℕ)) (name : List ℕ) (reading : Reading) (level : Level) : Type 0 where
  pub files : List Wad
  pub read : AreRead bytes files
  pub opened : IsLevel files (query_of name) reading level

-- why it isn't opened: there is none of the name
abbrev pub RefusesName : List (List ℕ) → List ℕ → RunFault → Type 0
RefusesName bytes name (fault.Level why) = (files : List Wad) × AreRead bytes files × RefusesLevel files (query_of name) why
RefusesName bytes name fault = RefusesFiles bytes fault

-- the level of the files' name, which is sound
pub record IsAccepted (bytes : List (List ℕ)) (name : List ℕ) (reading : Reading) (level : Level) : Type 0 where
  pub opened : IsOpened bytes name reading level
  pub sound : IsSound level

-- why a level isn't accepted: it isn't sound, or a growth was refused, and then no link has a fault
abbrev pub RefusesAudit : Level → RunFault → Type 0
RefusesAudit level fault.Audit = ¬ IsSound level
RefusesAudit level fault.Memory = NoFaultHolds (LinkHolds level)
RefusesAudit level _ = ⊥

-- why the level of the files' name isn't: there is none, or it isn't sound
abbrev pub RefusesAccepted : List (List ℕ) → List ℕ → Reading → RunFault → Type 0
RefusesAccepted bytes name reading fault.Audit = (level : Level) × IsOpened bytes name reading level × (¬ IsSound level)
RefusesAccepted bytes name reading fault = RefusesName bytes name fault
