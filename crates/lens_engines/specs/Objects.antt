-- The objects of a survey, a line each (ours): what was found at a level of Doom's format, and a refused file.
use Rattle.std.specs.Prelude.{ℕ, ◌==◌, nat_lt, filter, map, List, [], ◌∷◌, ◌++◌, codes, decimal}
use Rattle.std.specs.List.{flat_map, join_with_byte}
use Rattle.level_codes.specs.Codes.{code_name, finding_codes, warning_codes}
use Rattle.level_codes.specs.declared.code.ReportCode.{ReportCode}
use Rattle.wad_dir.specs.declared.wad.WadFault.TheVariants as wad
use Rattle.lens_engines.specs.Counts.{fault_total, note_total}
use Rattle.lens_texts.specs.JsonString.{bool_text, json_string}
use Rattle.lens_texts.specs.LevelObject.{file_member, number_member}
use Rattle.lens_engines.specs.Unlooked.{unlooked_member}
use Rattle.lens_engines.specs.ReportCounts.{count_of}
use Rattle.lens_engines.specs.declared.judging.Warnings.{Warnings}
use Rattle.lens_engines.specs.declared.judging.Warnings.TheVariants.{Unasked, Told}
use Rattle.lens_engines.specs.declared.level_counts.LevelCounts.{LevelCounts}
use Rattle.lens_engines.specs.declared.object.FileRefusal.{FileRefusal}
use Rattle.lens_engines.specs.declared.tables.Tables.{Tables}
use Rattle.lens_engines.specs.declared.object.FileRefusal.TheVariants.{Unopened, Unread, TooLarge, NoWad}

-- how many records the eight tables have, and how many bytes the last two lumps
abbrev pub lump_members : Tables → List (List ℕ)
lump_members tables =
    number_member (codes "things") tables.things
    ∷ number_member (codes "linedefs") tables.linedefs
    ∷ number_member (codes "sidedefs") tables.sidedefs
    ∷ number_member (codes "vertexes") tables.vertexes
    ∷ number_member (codes "segs") tables.segs
    ∷ number_member (codes "ssectors") tables.ssectors
    ∷ number_member (codes "nodes") tables.nodes
    ∷ number_member (codes "sectors") tables.sectors
    ∷ number_member (codes "reject") tables.reject
    ∷ number_member (codes "blockmap") tables.blockmap
    ∷ []

-- whether there is no fault, how many faults there are, and how many notes
abbrev pub sound_members : ℕ → ℕ → List ℕ
sound_members faults notes =
    codes ",\"sound\":" ++ (bool_text (faults == 0) ++ (number_member (codes "faults") faults ++ number_member (codes "notes") notes))

-- a code with how many there are of it: `"F3":12`
abbrev pub count_member : ReportCode → ℕ → List ℕ
count_member code count = codes "\"" ++ (code_name code ++ (codes "\":" ++ decimal count))

-- those of some codes of which there are any, by the counts of all codes
abbrev pub count_members : List ℕ → List ReportCode → List (List ℕ)
count_members counts codes = map (λ code. count_member code (count_of counts code)) (filter (λ code. nat_lt 0 (count_of counts code)) codes)

-- the same with commas between them
abbrev pub counts_text : List ℕ → List ReportCode → List ℕ
counts_text counts codes = join_with_byte 44 (count_members counts codes)

-- what was found at a level, by the counts of all codes
abbrev pub found_members : List ℕ → List ℕ
found_members counts =
    sound_members (fault_total counts) (note_total counts) ++ (codes ",\"findings\":{" ++ (counts_text counts finding_codes ++ codes "}"))

-- a level's warnings, where they are asked for: `,"warnings":{..}`
abbrev pub warnings_member : Warnings → List ℕ → List ℕ
warnings_member Unasked counts = []
warnings_member Told counts = codes ",\"warnings\":{" ++ (counts_text counts warning_codes ++ codes "}")

-- what the object of a level of Doom's format ends with
abbrev pub doom_members : LevelCounts → List ℕ
doom_members counted =
    flat_map (λ text. text) (lump_members counted.tables)
    ++ (found_members counted.counts ++ (warnings_member counted.warnings counted.counts ++ (unlooked_member counted.unlooked ++ codes "}\n")))

-- why a file is refused, in words
abbrev pub refusal_text : FileRefusal → List ℕ
refusal_text Unopened = codes "can't be opened"
refusal_text Unread = codes "can't be read"
refusal_text TooLarge = codes "larger than 268435456 bytes"
refusal_text (NoWad wad.Short) = codes "shorter than a WAD header"
refusal_text (NoWad wad.Magic) = codes "not a WAD file: it begins with neither IWAD nor PWAD"
refusal_text (NoWad wad.Count) = codes "a negative count of lumps"
refusal_text (NoWad wad.Directory) = codes "its directory isn't inside the file"

-- the object of a refused file
abbrev pub refused_object : List ℕ → FileRefusal → List ℕ
refused_object path refusal = file_member path ++ (codes ",\"refused\":" ++ (json_string (refusal_text refusal) ++ codes "}\n"))
