-- The line of a demo (ours): its game, how long it lasts, and what else its bytes hold.
use Rattle.std.specs.Prelude.{ℕ, ◌*◌, ◌/◌, ◌%◌, ◌==◌, List, [], ◌∷◌, ◌++◌, Option, Some, None, codes, if◌then◌else◌, length, nat_lt}
use Rattle.std.specs.Fmt.{decimal}
use Rattle.le_rec.specs.Name.{shown_name}
use Rattle.lens_texts.specs.ShownPath.{shown_path}
use Rattle.demo_lump.specs.Header.{players_in}
use Rattle.demo_lump.specs.declared.header.Header.{Header}
use Rattle.later_demos.specs.Demo.{Demo}
use Rattle.later_demos.specs.Game.{game_of}
use Rattle.later_demos.specs.Layout.{name_of}
use Rattle.later_demos.specs.declared.layout.Engine.{Engine}
use Rattle.later_demos.specs.declared.layout.Engine.TheVariants.{Doom}
use Rattle.later_demos.specs.declared.wrapper.Wrapper.{Wrapper}
use Rattle.later_demos.specs.declared.wrapper.Wrapper.TheVariants.{Dsda, PrUm}

-- what stands before all that is told of a demo: the file's path, and the lump of a WAD file
abbrev pub lump_text : Option (List ℕ) → List ℕ
lump_text None = []
lump_text (Some name) = shown_name name ++ codes ": "

abbrev pub heading_text : List ℕ → Option (List ℕ) → List ℕ
heading_text path lump = shown_path path ++ (codes ": " ++ lump_text lump)

-- `1 player`, `2 players`
abbrev pub players_text : ℕ → List ℕ
players_text n = decimal n ++ (if n == 1 then codes " player" else codes " players")

-- ` (Boom)`; Doom's own versions have no name
abbrev pub engine_text : Engine → List ℕ
engine_text Doom = []
engine_text engine = codes " (" ++ (name_of engine ++ codes ")")

-- ` in DSDA 2`, ` in PR+UM 1`
abbrev pub wrapper_text : Option Wrapper → List ℕ
wrapper_text None = []
wrapper_text (Some (Dsda dsda)) = codes " in DSDA " ++ decimal dsda.version
wrapper_text (Some (PrUm name)) = codes " in PR+UM 1"

-- `, skill 3, episode 1, map 4, 1 player`
abbrev pub level_text : Header → List ℕ
level_text header =
    codes ", skill " ++ (decimal header.skill ++ (codes ", episode " ++ (decimal header.episode
    ++ (codes ", map " ++ (decimal header.map ++ (codes ", " ++ players_text (players_in header.players)))))))

-- the game of a demo
abbrev pub game : Demo → Header
game demo = game_of demo.layout demo.header

-- `version 202 (Boom) in DSDA 2, skill 3, episode 1, map 4, 1 player`
abbrev pub game_text : Demo → List ℕ
game_text demo =
    codes "version " ++ (decimal (game demo).version ++ (engine_text demo.layout.engine
    ++ (wrapper_text demo.wrapper ++ level_text (game demo))))

-- two digits of a number below 100
abbrev pub two_digits : ℕ → List ℕ
two_digits n = if nat_lt n 10 then codes "0" ++ decimal n else decimal n

-- how long tics last, of which 35 are a second: minutes, seconds and hundredths, rounded down (TICRATE of doomdef.h)
abbrev pub time_text : ℕ → List ℕ
time_text tics =
    decimal (tics / 2100) ++ (codes ":" ++ (two_digits (tics / 35 % 60) ++ (codes "." ++ two_digits (tics % 35 * 100 / 35))))

-- a number behind its label, if it isn't 0
abbrev pub some_text : List ℕ → ℕ → List ℕ
some_text label n = if n == 0 then [] else (label ++ decimal n)

-- `, 1531 tics, 0:43.74`
abbrev pub length_text : ℕ → List ℕ
length_text tics = codes ", " ++ (decimal tics ++ (codes " tics, " ++ time_text tics))

-- `, key frame 99675`
abbrev pub frame_text : Option (List ℕ) → List ℕ
frame_text None = []
frame_text (Some frame) = codes ", key frame " ++ decimal (length frame)

-- and what is left over
abbrev pub rest_text : Option (List ℕ) → ℕ → ℕ → List ℕ
rest_text frame odd after =
    frame_text frame ++ (some_text (codes ", odd ") odd ++ (some_text (codes ", after ") after ++ 10 ∷ []))

-- the full tics of a demo, and the commands after the last of them
abbrev pub full_tics : Demo → ℕ
full_tics demo = length demo.commands / players_in (game demo).players

abbrev pub odd_commands : Demo → ℕ
odd_commands demo = length demo.commands % players_in (game demo).players

-- the line of a demo
abbrev pub demo_line : List ℕ → Option (List ℕ) → Demo → List ℕ
demo_line path lump demo =
    shown_path path ++ ((codes ": " ++ (lump_text lump ++ game_text demo))
    ++ (length_text (full_tics demo) ++ rest_text demo.key_frame (odd_commands demo) (length demo.rest)))
