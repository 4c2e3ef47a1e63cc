-- That a level's nodes weren't built (ours): which of a node builder's lumps are empty. The released game reads memory that isn't its own then.
use Rattle.std.specs.Prelude.{ℕ, ◌-◌, Bool, not, ◌&&◌, ◌||◌, List, [], ◌∷◌, ◌++◌, codes, length, nat_eq, nat_lt, if◌then◌else◌}
use Rattle.std.specs.Fmt.{decimal}
use Rattle.map_level.specs.Level.{Level}
use Rattle.lens_texts.specs.Head.{Head, by_form}
use Rattle.lens_texts.specs.RemarkLine.{level_line}
use Rattle.lens_texts.specs.RemarkObject.{object_front}
use Rattle.lens_texts.specs.declared.label.LevelLabel.{LevelLabel}
use Rattle.lens_texts.specs.declared.unbuilt.EmptyLumps.{EmptyLumps}

-- whether a level with linedefs has none of some records
abbrev pub lacks : Level → ℕ → Bool
lacks level count = nat_lt 0 (length level.linedefs.records) && nat_eq count 0

-- which lumps are empty; a level of one ssector has no nodes, and lacks none
abbrev pub empty_lumps : Level → EmptyLumps
empty_lumps level = record {
  segs = lacks level (length level.segs.records);
  ssectors = lacks level (length level.ssectors.records);
  nodes = lacks level (length level.nodes.records) && not (nat_eq (length level.ssectors.records) 1);
}

abbrev pub is_unbuilt : EmptyLumps → Bool
is_unbuilt empty = empty.segs || empty.ssectors || empty.nodes

-- a name before others, where it is one
abbrev pub name_if : Bool → List ℕ → List (List ℕ) → List (List ℕ)
name_if is_one name names = if is_one then name ∷ names else names

-- their names, in the order of the lumps
abbrev pub empty_names : EmptyLumps → List (List ℕ)
empty_names empty = name_if empty.segs (codes "SEGS") (name_if empty.ssectors (codes "SSECTORS") (name_if empty.nodes (codes "NODES") []))

-- that they are empty, in words
abbrev pub empty_words : List (List ℕ) → List ℕ
empty_words [] = []
empty_words (a ∷ []) = a ++ codes " is empty"
empty_words (a ∷ b ∷ []) = a ++ (codes " and " ++ (b ++ codes " are empty"))
empty_words (a ∷ b ∷ c ∷ others) = a ++ (codes ", " ++ (b ++ (codes " and " ++ (c ++ codes " are empty"))))

-- names in quotes, with commas between
abbrev pub quoted_names : List (List ℕ) → List ℕ
quoted_names [] = []
quoted_names (a ∷ []) = codes "\"" ++ (a ++ codes "\"")
quoted_names (a ∷ b ∷ []) = codes "\"" ++ (a ++ (codes "\",\"" ++ (b ++ codes "\"")))
quoted_names (a ∷ b ∷ c ∷ others) = codes "\"" ++ (a ++ (codes "\",\"" ++ (b ++ (codes "\",\"" ++ (c ++ codes "\"")))))

-- without nodes the game reaches ssector 0 alone
abbrev pub unreached_text : Level → List ℕ → List ℕ
unreached_text level rest =
    if nat_eq (length level.nodes.records) 0 && nat_lt 1 (length level.ssectors.records)
    then codes ": " ++ (decimal (length level.ssectors.records - 1) ++ (codes " ssectors can't be reached" ++ rest))
    else rest

-- which lumps are empty, what that means, and what to do, before other bytes
abbrev pub unbuilt_message : Level → List ℕ → List ℕ
unbuilt_message level rest = empty_words (empty_names (empty_lumps level)) ++ unreached_text level (codes "; build the nodes" ++ rest)

-- `PATH: LEVEL: MESSAGE`
abbrev pub unbuilt_line : List ℕ → LevelLabel → Level → List ℕ
unbuilt_line path label level = level_line path label (unbuilt_message level (10 ∷ []))

-- the names of the empty lumps, and the beginning of the message, before other bytes
abbrev pub empty_member : Level → List ℕ → List ℕ
empty_member level rest = codes ",\"empty\":[" ++ (quoted_names (empty_names (empty_lumps level)) ++ (codes "],\"message\":\"" ++ rest))

-- `..,"empty":[NAMES],"message":MESSAGE}`
abbrev pub unbuilt_object : List ℕ → LevelLabel → Level → List ℕ
unbuilt_object path label level = object_front path label ++ empty_member level (unbuilt_message level (codes "\"}\n"))

-- that, where a lump is empty
abbrev pub unbuilt_text : Head → Level → List ℕ
unbuilt_text head level =
    if is_unbuilt (empty_lumps level) then by_form head.form (unbuilt_line head.path head.label level) (unbuilt_object head.path head.label level) else []
