-- The text of a demo's listing, of each engine that is read (ours): what the header says, the commands, and the totals.
use Rattle.std.specs.Prelude.{ℕ, ◌+◌, ◌==◌, Bool, true, false, not, ◌&&◌, if◌then◌else◌, Option, Some, None, List, [], ◌∷◌, ◌++◌, codes, length, map, slice_index}
use Rattle.std.specs.Fmt.{decimal}
use Rattle.std.specs.List.{flat_map, list_any, range_with_len}
use Rattle.std.specs.Option.{option_map_or}
use Rattle.le_rec.specs.Name.{name_of, shown_name}
use Rattle.later_demos.specs.Demo.{Demo}
use Rattle.later_demos.specs.Field.{comp_of, field_row, number_in}
use Rattle.later_demos.specs.Game.{game_of}
use Rattle.later_demos.specs.Header.{players_of}
use Rattle.later_demos.specs.Part.{part_of}
use Rattle.later_demos.specs.declared.command.LaterCommand.{LaterCommand}
use Rattle.later_demos.specs.declared.field.Field.{Field}
use Rattle.later_demos.specs.declared.field.Field.TheVariants.{Compatibility, MonstersRemember, VariableFriction, WeaponRecoil, AllowPushers, PlayerBobbing, DemoInsurance, RngSeed, MonsterInfighting, Dogs, DistFriend, MonsterBacking, MonsterAvoidHazards, MonsterFriction, HelpFriends, DogJumping, Monkeys, Comps, ForceOldBsp}
use Rattle.later_demos.specs.declared.layout.Engine.{Engine}
use Rattle.later_demos.specs.declared.layout.Engine.TheVariants as engine
use Rattle.later_demos.specs.declared.layout.Layout.{Layout}
use Rattle.later_demos.specs.declared.part.Part.{Part}
use Rattle.later_demos.specs.declared.part.Part.TheVariants as part
use Rattle.later_demos.specs.declared.wrapper.Wrapper.{Wrapper}
use Rattle.later_demos.specs.declared.wrapper.Wrapper.TheVariants.{Dsda, PrUm}
use Rattle.lens_texts.specs.Parts.{joined}
use Rattle.look_engines.specs.Listing.{header_line, totals_text}
use Rattle.look_engines.specs.Turn.{player_of, tic_of}
use Rattle.demo_listings.specs.CommandText.{command_text}

-- a number behind its label
abbrev pub labelled : List ℕ → ℕ → List ℕ
labelled label n = label ++ (codes " " ++ decimal n)

-- bytes as numbers, each behind a space
abbrev pub numbers_text : List ℕ → List ℕ
numbers_text bytes = flat_map (λ byte. codes " " ++ decimal byte) bytes

-- the name of a map in a wrapper, as names are shown
abbrev pub map_name_text : List ℕ → List ℕ
map_name_text name = if length (name_of name) == 0 then codes "(empty)" else shown_name (name_of name)

-- ` key_frame 99675`
abbrev pub key_frame_text : Option (List ℕ) → List ℕ
key_frame_text None = []
key_frame_text (Some frame) = labelled (codes " key_frame") (length frame)

-- what stands before a demo and behind its header, in a line
abbrev pub wrapper_line : Option Wrapper → Option (List ℕ) → List ℕ
wrapper_line None frame = []
wrapper_line (Some (Dsda dsda)) frame =
    labelled (codes "wrapper DSDA") dsda.version ++ (labelled (codes " marker") dsda.marker
    ++ (labelled (codes " tics") dsda.tics ++ (labelled (codes " flags") dsda.flags ++ (key_frame_text frame ++ 10 ∷ []))))
wrapper_line (Some (PrUm name)) frame = codes "wrapper PR+UM 1 map_name " ++ (map_name_text name ++ 10 ∷ [])

-- the fields that Doom's headers haven't, in the order of their places
abbrev pub options : List Field
options =
    Compatibility ∷ MonstersRemember ∷ VariableFriction ∷ WeaponRecoil ∷ AllowPushers ∷ PlayerBobbing ∷ DemoInsurance
    ∷ RngSeed ∷ MonsterInfighting ∷ Dogs ∷ DistFriend ∷ MonsterBacking ∷ MonsterAvoidHazards ∷ MonsterFriction
    ∷ HelpFriends ∷ DogJumping ∷ Monkeys ∷ Comps ∷ ForceOldBsp ∷ []

-- an option behind its name; nothing where the version hasn't the field
abbrev pub option_text : Layout → List ℕ → Field → List ℕ
option_text layout header field =
    option_map_or (λ n. codes " " ++ labelled (field_row field).name n) (number_in field layout header) []

-- the compatibility options, where there are some
abbrev pub comp_text : List ℕ → List ℕ
comp_text comp = if length comp == 0 then [] else codes " comp" ++ numbers_text comp

-- engines behind Doom's have options
abbrev pub has_options : Engine → Bool
has_options engine.Early = false
has_options engine.Doom = false
has_options _ = true

abbrev pub options_line : Layout → List ℕ → List ℕ
options_line layout header =
    if has_options layout.engine
    then codes "options" ++ (joined (map (option_text layout header) options) ++ (comp_text (comp_of layout.engine header) ++ 10 ∷ []))
    else []

-- a byte that belongs to nothing, and isn't 0
abbrev pub is_no_part : Part → Bool
is_no_part part.Unread = true
is_no_part _ = false

abbrev pub is_left_over : Layout → List ℕ → ℕ → Bool
is_left_over layout header place =
    is_no_part (part_of layout header place) && not (slice_index header place == 0)

-- ` 17:7`
abbrev pub byte_text : Layout → List ℕ → ℕ → List ℕ
byte_text layout header place =
    if is_left_over layout header place
    then labelled [] place ++ (codes ":" ++ decimal (slice_index header place)) else []

abbrev pub unread_line : Layout → List ℕ → List ℕ
unread_line layout header =
    if list_any (is_left_over layout header) (range_with_len 0 (length header))
    then codes "unread" ++ (joined (map (byte_text layout header) (range_with_len 0 (length header))) ++ 10 ∷ [])
    else []

-- all that stands before the commands
abbrev pub front_text : Demo → List ℕ
front_text demo =
    header_line (game_of demo.layout demo.header) ++ (wrapper_line demo.wrapper demo.key_frame
    ++ (options_line demo.layout demo.header ++ unread_line demo.layout demo.header))

-- `<tic> <player> <forward> <side> <turn> <buttons>`, and the actions
abbrev pub command_line : ℕ → ℕ → LaterCommand → List ℕ
command_line tic player c =
    decimal tic ++ (codes " " ++ (decimal player ++ (codes " " ++ (command_text c ++ 10 ∷ []))))

-- the lines of commands, numbered on from i
abbrev pub commands_text : List ℕ → ℕ → List LaterCommand → List ℕ
commands_text players i [] = []
commands_text players i (c ∷ commands) =
    command_line (tic_of players i) (player_of players i) c ++ commands_text players (i + 1) commands

-- the listing of a demo
abbrev pub listing : Demo → List ℕ
listing demo =
    front_text demo ++ (commands_text (players_of demo.layout demo.header) 0 demo.commands
    ++ totals_text (players_of demo.layout demo.header) (length demo.commands) (length demo.rest))
