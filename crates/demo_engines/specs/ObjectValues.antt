-- The members of a demo's object and their values (ours), as a reader of JSON gives them.
use Rattle.std.specs.Prelude.{ℕ, if◌then◌else◌, List, [], ◌∷◌, ◌++◌, Option, Some, None, codes, length, map, take}
use Rattle.json.specs.Json.{Json}
use Rattle.demo_lump.specs.Header.{players_in}
use Rattle.demo_lump.specs.declared.header.Header.{Header}
use Rattle.le_rec.specs.Name.{name_of, shown_name}
use Rattle.later_demos.specs.Demo.{Demo}
use Rattle.later_demos.specs.Footer.{Footer}
use Rattle.later_demos.specs.Layout.{name_of as engine_name}
use Rattle.later_demos.specs.declared.layout.Engine.{Engine}
use Rattle.later_demos.specs.declared.layout.Engine.TheVariants.{Doom}
use Rattle.later_demos.specs.declared.wrapper.Wrapper.{Wrapper}
use Rattle.later_demos.specs.declared.wrapper.Wrapper.TheVariants.{Dsda, PrUm}
use Rattle.lens_texts.specs.Members.{file_value, number_at, object_of, text_at}
use Rattle.demo_engines.specs.Objects.{has_rules}
use Rattle.demo_engines.specs.Summary.{full_tics, game, odd_commands}

-- numbers and their names, as members
abbrev pub numbers_at : List (List ℕ × ℕ) → List (List ℕ × Json)
numbers_at numbers = map (λ one. number_at one.0 one.1) numbers

-- the lump of a WAD file; none where the file is a demo
abbrev pub lump_values : Option (List ℕ) → List (List ℕ × Json)
lump_values None = []
lump_values (Some name) = text_at (codes "lump") (shown_name name) ∷ []

-- whose version it is
abbrev pub engine_values : Engine → List (List ℕ × Json)
engine_values Doom = []
engine_values engine = text_at (codes "engine") (engine_name engine) ∷ []

-- the version of a wrapper
abbrev pub wrapper_numbers : Option Wrapper → List (List ℕ × ℕ)
wrapper_numbers None = []
wrapper_numbers (Some (Dsda dsda)) = (codes "wrapper_version", dsda.version) ∷ []
wrapper_numbers (Some (PrUm name)) = (codes "wrapper_version", 1) ∷ []

-- what the demo stands in
abbrev pub wrapper_values : Option Wrapper → List (List ℕ × Json)
wrapper_values None = []
wrapper_values (Some (Dsda dsda)) = text_at (codes "wrapper") (codes "DSDA") ∷ numbers_at (wrapper_numbers (Some (Dsda dsda)))
wrapper_values (Some (PrUm name)) =
    text_at (codes "wrapper") (codes "PR+UM")
    ∷ (numbers_at (wrapper_numbers (Some (PrUm name))) ++ text_at (codes "map_name") (shown_name (name_of name)) ∷ [])

abbrev pub version_number : Demo → List (List ℕ × ℕ)
version_number demo = (codes "version", (game demo).version) ∷ []

-- the level, the players, how long the demo lasts, and what else its bytes hold
abbrev pub level_numbers : Demo → List (List ℕ × ℕ)
level_numbers demo =
    (codes "skill", (game demo).skill) ∷ (codes "episode", (game demo).episode) ∷ (codes "map", (game demo).map) ∷ []

abbrev pub length_numbers : Demo → List (List ℕ × ℕ)
length_numbers demo =
    (codes "players", players_in (game demo).players)
    ∷ (codes "tics", full_tics demo)
    ∷ (codes "odd", odd_commands demo)
    ∷ (codes "after", length demo.rest)
    ∷ []

abbrev pub frame_number : Option (List ℕ) → List (List ℕ × ℕ)
frame_number None = []
frame_number (Some frame) = (codes "key_frame", length frame) ∷ []

-- the rules of the game, of a demo that isn't plainly of Doom 1.9
abbrev pub rule_numbers : Header → List (List ℕ × ℕ)
rule_numbers header =
    (codes "deathmatch", header.deathmatch) ∷ (codes "respawn", header.respawn) ∷ (codes "fast", header.fast)
    ∷ (codes "nomonsters", header.no_monsters) ∷ (codes "viewpoint", header.viewpoint) ∷ []

-- all numbers of an object
abbrev pub all_numbers : Demo → List (List ℕ × ℕ)
all_numbers demo =
    version_number demo ++ (wrapper_numbers demo.wrapper ++ (level_numbers demo ++ (length_numbers demo
    ++ (frame_number demo.key_frame ++ rule_numbers (game demo)))))

-- a text of a footer
abbrev pub footer_values : List ℕ → Option (List ℕ) → List (List ℕ × Json)
footer_values name None = []
footer_values name (Some text) = text_at name (take 4096 text) ∷ []

-- the object of a demo
abbrev pub demo_value : List ℕ → Option (List ℕ) → Demo → Footer → Json
demo_value path lump demo footer =
    object_of (file_value path ∷ (lump_values lump ++ ((numbers_at (version_number demo)
    ++ (engine_values demo.layout.engine ++ wrapper_values demo.wrapper)) ++ (numbers_at (level_numbers demo)
    ++ (numbers_at (length_numbers demo) ++ (numbers_at (frame_number demo.key_frame)
    ++ ((if has_rules demo then numbers_at (rule_numbers (game demo)) else [])
    ++ (footer_values (codes "port") footer.port ++ footer_values (codes "words") footer.words))))))))

-- the object of a demo that isn't read, for a reason in words
abbrev pub refused_value : List ℕ → Option (List ℕ) → List ℕ → Json
refused_value path lump why = object_of (file_value path ∷ (lump_values lump ++ text_at (codes "refused") why ∷ []))
