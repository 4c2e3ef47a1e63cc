-- What the objects of a level have in common (ours): the file, the label and the format.
use Rattle.std.specs.Prelude.{ℕ, ◌-◌, List, [], ◌++◌, Option, Some, None, codes, decimal, slice_index_or}
use Rattle.le_rec.specs.Name.{shown_name}
use Rattle.level_starts.specs.declared.format.Format.{Format}
use Rattle.level_starts.specs.declared.format.Format.TheVariants.{Udmf, Incomplete, Hexen, Outside, Extended, Doom}
use Rattle.map_level.specs.LinkFaults.{usual_names}
use Rattle.node_lumps.specs.Words.{broken_text}
use Rattle.node_lumps.specs.declared.broken.Broken.{Broken}
use Rattle.lens_texts.specs.JsonString.{json_string}
use Rattle.lens_texts.specs.declared.unread.Unread.{Unread}
use Rattle.lens_texts.specs.declared.unread.Unread.TheVariants as unread

-- a name as a string, as it is shown
abbrev pub name_string : List ℕ → List ℕ
name_string name = json_string (shown_name name)

-- a member behind others whose value is a number: `,"name":12`
abbrev pub number_member : List ℕ → ℕ → List ℕ
number_member name number = codes ",\"" ++ (name ++ (codes "\":" ++ decimal number))

-- what each object begins with
abbrev pub file_member : List ℕ → List ℕ
file_member path = codes "{\"file\":" ++ json_string path

-- a format as it is named
abbrev pub format_name : Format → List ℕ
format_name Udmf = codes "udmf"
format_name (Incomplete k) = codes "incomplete"
format_name Hexen = codes "hexen"
format_name (Outside k) = codes "outside"
format_name (Extended tag) = codes "extended"
format_name Doom = codes "doom"

-- the label of a level as it is shown, and its number
abbrev pub label_members : List ℕ → ℕ → List ℕ
label_members name g = codes ",\"level\":" ++ (name_string name ++ number_member (codes "entry") g)

abbrev pub format_member : Format → List ℕ
format_member format = codes ",\"format\":\"" ++ (format_name format ++ codes "\"")

-- what the object of a level begins with
abbrev pub level_members : List ℕ → List ℕ → ℕ → Format → List ℕ
level_members path name g format = file_member path ++ (label_members name g ++ format_member format)

-- the usual name of a lump, by its number behind the label
abbrev pub usual_name : ℕ → List ℕ
usual_name k = slice_index_or usual_names (k - 1) []

-- why extended nodes are broken, if they are
abbrev pub broken_member : Option Broken → List ℕ
broken_member None = []
broken_member (Some why) = codes ",\"broken\":" ++ json_string (broken_text why)

-- what decides another format: the lump that isn't there or isn't inside its file; or the first bytes of the nodes, and why these are broken
abbrev pub telling_members : Unread → List ℕ
telling_members unread.Udmf = []
telling_members (unread.Incomplete k) = codes ",\"lump\":" ++ name_string (usual_name k)
telling_members unread.Hexen = []
telling_members (unread.Outside k) = codes ",\"lump\":" ++ name_string (usual_name k)
telling_members (unread.Extended tag why) = (codes ",\"tag\":" ++ json_string tag) ++ broken_member why

-- what the object of a level that isn't judged ends with
abbrev pub other_members : Unread → List ℕ
other_members unread = telling_members unread ++ codes "}\n"
