-- What clauses see of a folder (ours): the files that stand in it under their names.
use Rattle.std.specs.Prelude.{◌≡◌, ℕ, false, List, [], ◌∷◌, ◌++◌, Option, Some, IfSome, Result, Ok, Err}
use Rattle.std.specs.Option.{option_map}
use Rattle.std.specs.Io.KnownBytes.{Keeps}
use Rattle.le_rec.specs.Sink.{SinkState}
use Rattle.lens_commands.specs.declared.atlas.folder.FolderFault.{FolderFault}
use Rattle.lens_commands.specs.declared.atlas.folder.FolderFault.TheVariants as folder
use Rattle.lens_commands.specs.declared.atlas.folder.FolderRefusal.{FolderRefusal}
use Rattle.lens_commands.specs.declared.atlas.fault.AtlasFault.{AtlasFault}
use Rattle.lens_commands.specs.declared.atlas.fault.AtlasFault.TheVariants as fault
use Rattle.lens_commands.specs.declared.atlas.fault.KeepFault.{KeepFault}
use Rattle.lens_commands.specs.declared.atlas.fault.KeepFault.TheVariants as file

-- a whole file under its name
pub record Kept : Type 0 where
  pub name : List ℕ
  pub text : List ℕ

-- the files that there were, where they are known, and then these
abbrev pub with_files : Option (List Kept) → List Kept → Option (List Kept)
with_files files added = option_map (λ kept. kept ++ added) files

-- why a folder isn't taken: it is refused for one of its reasons, or a growth was
abbrev pub IsWhy : (FolderRefusal → Type 0) → FolderFault → Type 0
IsWhy refuses (folder.Refused refusal) = refuses refusal
IsWhy refuses folder.Memory = Unit {0}

-- a file was begun: it is empty, and this is known if the folder's files are
pub record IsBegun (files : Option (List Kept)) (file : SinkState) : Type 0 where
  pub sound : file.failed ≡ false
  pub empty : IfSome files (λ _. file.taken ≡ Some [])

-- at Ok there is one file more, with what it took, and at Err there is none
abbrev pub KeepsFile : Option (List Kept) → Option (List Kept) → SinkState → List ℕ → Result (Unit {0}) KeepFault → Type 0
KeepsFile old new file name (Ok x) = (text : List ℕ) × Keeps file.taken (Some text) × (new ≡ with_files old (record { name = name; text = text } ∷ []))
KeepsFile old new file name (Err why) = new ≡ old

-- why an atlas isn't whole where a file of the folder isn't
abbrev pub of_file : KeepFault → AtlasFault
of_file file.Memory = fault.Memory
of_file file.Write = fault.Write

-- want of memory, or a file of the folder that can't be written, is why, and not standard error
pub record IsNotErrors (why : AtlasFault) : Type 0 where
  pub fault : KeepFault
  pub is : why ≡ of_file fault
