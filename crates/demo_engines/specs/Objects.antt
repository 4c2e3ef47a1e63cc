-- The object of a demo, in one line (ours).
use Rattle.std.specs.Prelude.{ℕ, Bool, true, false, ◌||◌, if◌then◌else◌, is_some, List, [], ◌++◌, Option, Some, None, codes, length, take}
use Rattle.demo_lump.specs.Header.{players_in}
use Rattle.demo_lump.specs.declared.header.Header.{Header}
use Rattle.le_rec.specs.Name.{name_of}
use Rattle.later_demos.specs.Demo.{Demo}
use Rattle.later_demos.specs.Footer.{Footer}
use Rattle.later_demos.specs.Layout.{name_of as engine_name}
use Rattle.later_demos.specs.declared.layout.Engine.{Engine}
use Rattle.later_demos.specs.declared.layout.Engine.TheVariants.{Doom}
use Rattle.later_demos.specs.declared.wrapper.Wrapper.{Wrapper}
use Rattle.later_demos.specs.declared.wrapper.Wrapper.TheVariants.{Dsda, PrUm}
use Rattle.lens_texts.specs.JsonString.{json_string}
use Rattle.lens_texts.specs.LevelObject.{file_member, name_string, number_member}
use Rattle.demo_engines.specs.Summary.{full_tics, game, odd_commands}

-- a member whose value is a text
abbrev pub text_member : List ℕ → List ℕ → List ℕ
text_member name text = codes ",\"" ++ (name ++ (codes "\":" ++ json_string text))

-- the lump of a WAD file; none where the file is a demo
abbrev pub lump_member : Option (List ℕ) → List ℕ
lump_member None = []
lump_member (Some name) = codes ",\"lump\":" ++ name_string name

-- whose version it is; Doom's own have no name
abbrev pub engine_member : Engine → List ℕ
engine_member Doom = []
engine_member engine = text_member (codes "engine") (engine_name engine)

abbrev pub map_name_member : List ℕ → List ℕ
map_name_member name = codes ",\"map_name\":" ++ name_string (name_of name)

-- what the demo stands in
abbrev pub wrapper_members : Option Wrapper → List ℕ
wrapper_members None = []
wrapper_members (Some (Dsda dsda)) =
    text_member (codes "wrapper") (codes "DSDA") ++ number_member (codes "wrapper_version") dsda.version
wrapper_members (Some (PrUm name)) =
    text_member (codes "wrapper") (codes "PR+UM") ++ (number_member (codes "wrapper_version") 1 ++ map_name_member name)

abbrev pub version_members : Demo → List ℕ
version_members demo =
    number_member (codes "version") (game demo).version ++ (engine_member demo.layout.engine ++ wrapper_members demo.wrapper)

-- the level
abbrev pub level_members : Header → List ℕ
level_members header =
    number_member (codes "skill") header.skill
    ++ (number_member (codes "episode") header.episode ++ number_member (codes "map") header.map)

-- the players, how long it lasts, and what else its bytes hold
abbrev pub length_members : ℕ → ℕ → ℕ → ℕ → List ℕ
length_members players tics odd after =
    number_member (codes "players") players ++ (number_member (codes "tics") tics
    ++ (number_member (codes "odd") odd ++ number_member (codes "after") after))

abbrev pub frame_member : Option (List ℕ) → List ℕ
frame_member None = []
frame_member (Some frame) = number_member (codes "key_frame") (length frame)

-- the rules of the game: of a demo that isn't plainly of Doom 1.9
abbrev pub is_named : Engine → Bool
is_named Doom = false
is_named _ = true

abbrev pub has_rules : Demo → Bool
has_rules demo = is_named demo.layout.engine || is_some demo.wrapper

abbrev pub rule_members : Header → List ℕ
rule_members header =
    (number_member (codes "deathmatch") header.deathmatch ++ number_member (codes "respawn") header.respawn)
    ++ (number_member (codes "fast") header.fast ++ (number_member (codes "nomonsters") header.no_monsters
    ++ number_member (codes "viewpoint") header.viewpoint))

abbrev pub rules_or_none : Demo → List ℕ
rules_or_none demo = if has_rules demo then rule_members (game demo) else []

-- a text of a footer, of which no more than its first 4096 bytes are told
abbrev pub footer_member : List ℕ → Option (List ℕ) → List ℕ
footer_member name None = []
footer_member name (Some text) = text_member name (take 4096 text)

-- what the footer tells, and the object's end
abbrev pub end_members : Footer → List ℕ
end_members footer =
    footer_member (codes "port") footer.port ++ (footer_member (codes "words") footer.words ++ codes "}\n")

-- the object of a demo, with what the footer tells
abbrev pub demo_object : List ℕ → Option (List ℕ) → Demo → Footer → List ℕ
demo_object path lump demo footer =
    file_member path ++ (lump_member lump ++ (version_members demo ++ (level_members (game demo)
    ++ (length_members (players_in (game demo).players) (full_tics demo) (odd_commands demo) (length demo.rest)
    ++ (frame_member demo.key_frame ++ (rules_or_none demo ++ end_members footer))))))

-- why a demo isn't read
abbrev pub refused_member : List ℕ → List ℕ
refused_member why = codes ",\"refused\":" ++ (json_string why ++ codes "}\n")

-- the object of one that isn't, for a reason in words
abbrev pub refused_object : List ℕ → Option (List ℕ) → List ℕ → List ℕ
refused_object path lump why = file_member path ++ (lump_member lump ++ refused_member why)
