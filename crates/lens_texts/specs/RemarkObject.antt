-- The objects of a check, a line each (ours): what its lines say, with the place in numbers.
use Rattle.std.specs.Prelude.{ℕ, ◌/◌, ◌%◌, List, [], ◌++◌, codes, nat_eq, if◌then◌else◌}
use Rattle.std.specs.Fmt.{decimal, signed_decimal}
use Rattle.map_level.specs.Level.{Level}
use Rattle.level_codes.specs.Codes.{code_name, kind_of}
use Rattle.level_codes.specs.Kind.{kind_name}
use Rattle.level_codes.specs.declared.code.ReportCode.{ReportCode}
use Rattle.level_codes.specs.declared.kind.Kind.{Kind}
use Rattle.level_codes.specs.declared.kind.Kind.TheVariants.{Block, Whole}
use Rattle.map_tables.specs.BlockMap.{count_of, head}
use Rattle.lens_texts.specs.JsonString.{json_string}
use Rattle.lens_texts.specs.LevelObject.{file_member, label_members, number_member}
use Rattle.lens_texts.specs.Remark.{remark_code, remark_index, remark_message, remark_place}
use Rattle.lens_texts.specs.declared.label.LevelLabel.{LevelLabel}
use Rattle.lens_texts.specs.declared.place.MapPlace.{MapPlace}
use Rattle.lens_texts.specs.declared.place.MapPlace.TheVariants.{Nowhere, At, Between, OfLinedef}
use Rattle.lens_texts.specs.declared.place.Spot.{Spot}
use Rattle.lens_texts.specs.declared.remark.Remark.{Remark}

-- what each object of a level begins with: `{"file":PATH,"level":NAME,"entry":G`
abbrev pub object_front : List ℕ → LevelLabel → List ℕ
object_front path label = file_member path ++ label_members label.name label.entry

-- the kind of what is found, behind its code: `","kind":"KIND"`, before other bytes
abbrev pub kind_member : List ℕ → List ℕ → List ℕ
kind_member kind rest = codes "\",\"kind\":\"" ++ (kind ++ (codes "\"" ++ rest))

-- block i of rows of so many: `,"index":[BX,BY]`
abbrev pub block_member : ℕ → ℕ → List ℕ
block_member columns i =
    if nat_eq columns 0 then [] else codes ",\"index\":[" ++ (decimal (i % columns) ++ (codes "," ++ (decimal (i / columns) ++ codes "]")))

-- the index of what is of a kind; a whole level has none
abbrev pub index_member : Level → Kind → ℕ → List ℕ
index_member level Whole i = []
index_member level Block i = block_member (count_of (head level.blockmap 2)) i
index_member level _ i = number_member (codes "index") i

-- a place in numbers, before other bytes: `[X,Y]`
abbrev pub spot_pair : Spot → List ℕ → List ℕ
spot_pair spot rest = codes "[" ++ (signed_decimal spot.x ++ (codes "," ++ (signed_decimal spot.y ++ (codes "]" ++ rest))))

abbrev pub place_member : MapPlace → List ℕ → List ℕ
place_member Nowhere rest = rest
place_member (At spot) rest = codes ",\"place\":{\"at\":" ++ spot_pair spot (codes "}" ++ rest)
place_member (Between from to) rest = codes ",\"place\":{\"from\":" ++ spot_pair from (codes ",\"to\":" ++ spot_pair to (codes "}" ++ rest))
place_member (OfLinedef linedef) rest = codes ",\"place\":{\"linedef\":" ++ (decimal linedef ++ (codes "}" ++ rest))

-- what an object says, and where, up to its end
abbrev pub told_members : List ℕ → MapPlace → List ℕ
told_members text place = codes ",\"message\":" ++ (json_string text ++ place_member place (codes "}\n"))

-- the code, kind and index of a remark
abbrev pub subject_members : Level → ReportCode → ℕ → List ℕ
subject_members level code i =
    codes ",\"code\":\"" ++ (code_name code ++ kind_member (kind_name (kind_of code)) (index_member level (kind_of code) i))

-- the object of a remark
abbrev pub remark_object : List ℕ → LevelLabel → Level → Remark → List ℕ
remark_object path label level remark =
    object_front path label
    ++ (subject_members level (remark_code remark) (remark_index remark) ++ told_members (remark_message level remark []) (remark_place level remark))

-- `..,"code":CODE,"more":N}`
abbrev pub left_object : List ℕ → LevelLabel → ReportCode → ℕ → List ℕ
left_object path label code left =
    object_front path label ++ (codes ",\"code\":\"" ++ (code_name code ++ (codes "\",\"more\":" ++ (decimal left ++ codes "}\n"))))

-- `..,"sound_with_wide":true}`
abbrev pub wide_object : List ℕ → LevelLabel → List ℕ
wide_object path label = object_front path label ++ codes ",\"sound_with_wide\":true}\n"
