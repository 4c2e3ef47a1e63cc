-- Messages about a folder on standard error (ours), and how the run ends.
use Rattle.std.specs.Prelude.{ℕ, List, ◌++◌, codes}
use Rattle.lens_texts.specs.ShownPath.{shown_path}
use Rattle.lens_commands.specs.declared.atlas.fault.AtlasFault.{AtlasFault}
use Rattle.lens_commands.specs.declared.atlas.fault.AtlasFault.TheVariants as fault
use Rattle.lens_commands.specs.declared.atlas.folder.FolderRefusal.{FolderRefusal}
use Rattle.lens_commands.specs.declared.atlas.folder.FolderRefusal.TheVariants.{NotEmpty, NoFolder, Unread, NoParent, Unmade}
use Rattle.lens_reports.specs.declared.end.End.{End}
use Rattle.lens_reports.specs.declared.end.End.TheVariants as end

-- why it isn't taken, in words
abbrev pub refusal_text : FolderRefusal → List ℕ
refusal_text NotEmpty = codes "it isn't empty"
refusal_text NoFolder = codes "it isn't a folder"
refusal_text Unread = codes "it can't be read"
refusal_text NoParent = codes "the folder above it isn't there"
refusal_text Unmade = codes "it can't be made"

-- that a file of it isn't written
abbrev pub write_text : List ℕ
write_text = codes "a file in it can't be written"

-- a line on a folder: `wadlens: FOLDER: TEXT`
abbrev pub folder_line : List ℕ → List ℕ → List ℕ
folder_line folder text = codes "wadlens: " ++ (shown_path folder ++ (codes ": " ++ (text ++ codes "\n")))

-- how a run ends whose atlas isn't whole
abbrev pub fault_end : AtlasFault → End
fault_end fault.Memory = end.Memory
fault_end fault.Write = end.Refused
fault_end fault.Errors = end.Errors
