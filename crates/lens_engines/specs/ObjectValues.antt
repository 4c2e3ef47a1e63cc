-- The members of a survey's objects and their values (ours), as a reader of JSON gives them.
use Rattle.std.specs.Prelude.{ℕ, ◌<◌, ◌^◌, ◌==◌, nat_lt, All, List, [], ◌∷◌, ◌++◌, Option, Some, None, codes, filter, map, if◌then◌else◌}
use Rattle.json.specs.Json.{Json, array, boolean, string}
use Rattle.le_rec.specs.Name.{shown_name}
use Rattle.level_codes.specs.Codes.{code_name, finding_codes, warning_codes}
use Rattle.level_codes.specs.declared.code.ReportCode.{ReportCode}
use Rattle.level_starts.specs.declared.format.Format.{Format}
use Rattle.level_starts.specs.declared.format.Format.TheVariants.{Doom}
use Rattle.lens_engines.specs.Counts.{fault_total, note_total}
use Rattle.lens_engines.specs.Objects.{refusal_text}
use Rattle.lens_engines.specs.ReportCounts.{count_of}
use Rattle.lens_texts.specs.LevelObject.{format_name, usual_name}
use Rattle.lens_texts.specs.Members.{file_value, names_of, number_at, object_of, text_at}
use Rattle.lens_texts.specs.Unread.{unread_format}
use Rattle.lens_texts.specs.declared.unread.Unread.{Unread}
use Rattle.lens_texts.specs.declared.unread.Unread.TheVariants.{Udmf, Incomplete, Hexen, Outside, Extended}
use Rattle.node_lumps.specs.Words.{broken_text}
use Rattle.node_lumps.specs.declared.broken.Broken.{Broken}
use Rattle.lens_engines.specs.declared.judging.Warnings.{Warnings}
use Rattle.lens_engines.specs.declared.judging.Warnings.TheVariants.{Unasked, Told}
use Rattle.lens_engines.specs.declared.level_counts.LevelCounts.{LevelCounts}
use Rattle.lens_engines.specs.declared.object.FileRefusal.{FileRefusal}
use Rattle.lens_engines.specs.declared.tables.Tables.{Tables}
use Rattle.lens_engines.specs.Unlooked.{codes_in, has_any}
use Rattle.level_codes.specs.declared.set.CodeSet.{CodeSet}

-- the members of a level: its label, the label's entry, its format
abbrev pub label_values : List ℕ → ℕ → Format → List (List ℕ × Json)
label_values name g format =
    text_at (codes "level") (shown_name name) ∷ number_at (codes "entry") g ∷ (codes "format", string (format_name format)) ∷ []

-- why extended nodes are broken, if they are
abbrev pub broken_values : Option Broken → List (List ℕ × Json)
broken_values None = []
broken_values (Some why) = text_at (codes "broken") (broken_text why) ∷ []

-- the members of another format
abbrev pub telling_values : Unread → List (List ℕ × Json)
telling_values Udmf = []
telling_values (Incomplete k) = text_at (codes "lump") (shown_name (usual_name k)) ∷ []
telling_values Hexen = []
telling_values (Outside k) = text_at (codes "lump") (shown_name (usual_name k)) ∷ []
telling_values (Extended tag why) = text_at (codes "tag") tag ∷ broken_values why

-- the ten lumps: how many records the tables have, and how many bytes the last two
abbrev pub sizes_of : Tables → List (List ℕ × ℕ)
sizes_of tables =
    (codes "things", tables.things)
    ∷ (codes "linedefs", tables.linedefs)
    ∷ (codes "sidedefs", tables.sidedefs)
    ∷ (codes "vertexes", tables.vertexes)
    ∷ (codes "segs", tables.segs)
    ∷ (codes "ssectors", tables.ssectors)
    ∷ (codes "nodes", tables.nodes)
    ∷ (codes "sectors", tables.sectors)
    ∷ (codes "reject", tables.reject)
    ∷ (codes "blockmap", tables.blockmap)
    ∷ []

abbrev pub size_values : Tables → List (List ℕ × Json)
size_values tables = map (λ size. number_at size.0 size.1) (sizes_of tables)

-- those of some codes of which there are any, each with how many
abbrev pub count_values : List ℕ → List ReportCode → List (List ℕ × Json)
count_values counts codes = map (λ code. number_at (code_name code) (count_of counts code)) (filter (λ code. nat_lt 0 (count_of counts code)) codes)

-- what was found at a level
abbrev pub found_values : List ℕ → List (List ℕ × Json)
found_values counts =
    (codes "sound", boolean (fault_total counts == 0))
    ∷ number_at (codes "faults") (fault_total counts)
    ∷ number_at (codes "notes") (note_total counts)
    ∷ (codes "findings", object_of (count_values counts finding_codes))
    ∷ []

-- a level's warnings, where they are asked for
abbrev pub warnings_values : Warnings → List ℕ → List (List ℕ × Json)
warnings_values Unasked counts = []
warnings_values Told counts = (codes "warnings", object_of (count_values counts warning_codes)) ∷ []

-- what wasn't looked for, where there is some
abbrev pub unlooked_values : CodeSet → List (List ℕ × Json)
unlooked_values unlooked = if has_any unlooked then (codes "unlooked", array (names_of (map code_name (codes_in unlooked)))) ∷ [] else []

-- the object of a refused file
abbrev pub refused_value : List ℕ → FileRefusal → Json
refused_value path refusal = object_of (file_value path ∷ (codes "refused", string (refusal_text refusal)) ∷ [])

-- the object of a level that isn't judged
abbrev pub other_value : List ℕ → List ℕ → ℕ → Unread → Json
other_value path name g unread = object_of (file_value path ∷ (label_values name g (unread_format unread) ++ telling_values unread))

-- the object of a level of Doom's format
abbrev pub doom_value : List ℕ → List ℕ → ℕ → LevelCounts → Json
doom_value path name g counted =
    object_of (file_value path ∷ (label_values name g Doom ++ (size_values counted.tables
    ++ (found_values counted.counts ++ (warnings_values counted.warnings counted.counts ++ unlooked_values counted.unlooked)))))

-- the numbers of such an object have 64 bits at most, as all have that are written
pub record HasSmallNumbers (counted : LevelCounts) : Type 0 where
  pub sizes : All (λ size. size.1 < 2 ^ 64) (sizes_of counted.tables)
  pub faults : fault_total counted.counts < 2 ^ 64
  pub notes : note_total counted.counts < 2 ^ 64
  pub each : (code : ReportCode) → count_of counted.counts code < 2 ^ 64
