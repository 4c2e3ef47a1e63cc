-- Where two demos first differ (ours), and the line for that. What comes after their markers doesn't count, nor do the marker's place and the
-- tics that a wrapper of DSDA-Doom tells.
use Rattle.std.specs.Prelude.{◌≡◌, ◌≢◌, ◌⊎◌, ℕ, ◌*◌, ◌<◌, Bool, true, false, if◌then◌else◌, Option, Some, None, List, [], ◌∷◌, ◌++◌, codes, length, map, replicate, take, slice_index, unwrap_or, Result, Ok, IfOk}
use Rattle.std.specs.Fmt.{decimal}
use Rattle.std.specs.List.{slice_get}
use Rattle.demo_lump.specs.Header.{players_in}
use Rattle.le_rec.specs.Sink.{SinkState}
use Rattle.later_demos.specs.Demo.{Demo}
use Rattle.later_demos.specs.Field.{field_row, number_in}
use Rattle.later_demos.specs.Header.{players_of}
use Rattle.later_demos.specs.Part.{part_of}
use Rattle.later_demos.specs.declared.command.LaterCommand.{LaterCommand}
use Rattle.later_demos.specs.declared.part.Part.{Part}
use Rattle.later_demos.specs.declared.part.Part.TheVariants as part
use Rattle.later_demos.specs.declared.wrapper.Wrapper.{Wrapper}
use Rattle.later_demos.specs.declared.wrapper.Wrapper.TheVariants.{Dsda, PrUm}
use Rattle.line_io.specs.Writes.{Writes}
use Rattle.line_io.specs.declared.fault.IoFault.{IoFault}
use Rattle.look_engines.specs.Turn.{player_of, tic_of}
use Rattle.demo_listings.specs.CommandText.{command_text}
use Rattle.demo_listings.specs.Listing.{labelled, numbers_text}
use Rattle.demo_listings.specs.declared.compare.Stop.{Stop}
use Rattle.demo_listings.specs.declared.compare.Stop.TheVariants.{Same, Differ, EndOfA, EndOfB}
use Rattle.demo_listings.specs.declared.meaning.Meaning.{Meaning}
use Rattle.demo_listings.specs.declared.meaning.Compared.{Compared}
use Rattle.demo_listings.specs.declared.meaning.Compared.TheVariants.{Everything, Commands}

-- `header: skill 3, 4`: a name, and the texts of two values, each behind a space
abbrev pub told : List ℕ → List ℕ → List ℕ → List ℕ
told name a b = codes "header: " ++ (name ++ (a ++ (codes "," ++ (b ++ 10 ∷ []))))

-- a number behind a space
abbrev pub number_text : ℕ → List ℕ
number_text n = labelled [] n

-- what is told of a wrapper
abbrev pub wrapper_text : Option Wrapper → List ℕ
wrapper_text None = codes " none"
wrapper_text (Some (Dsda dsda)) = labelled (codes " DSDA") dsda.version
wrapper_text (Some (PrUm name)) = codes " PR+UM 1"

abbrev pub flags_of : Option Wrapper → ℕ
flags_of (Some (Dsda dsda)) = dsda.flags
flags_of _ = 0

abbrev pub map_name_of : Option Wrapper → List ℕ
map_name_of (Some (PrUm name)) = name
map_name_of _ = replicate 8 0

-- the bytes of a key frame
abbrev pub frame_of : Demo → List ℕ
frame_of demo = unwrap_or demo.key_frame []

abbrev pub version_of : Demo → ℕ
version_of demo = slice_index demo.header 0

abbrev pub players_in_game : Demo → List ℕ
players_in_game demo = players_of demo.layout demo.header

-- the wrappers say the same
pub record SameWrappers (a b : Demo) : Type 0 where
  pub kind : wrapper_text a.wrapper ≡ wrapper_text b.wrapper
  pub flags : flags_of a.wrapper ≡ flags_of b.wrapper
  pub map_name : map_name_of a.wrapper ≡ map_name_of b.wrapper

-- so do the headers and the key frames
pub record SameHeads (a b : Demo) : Type 0 where
  pub wrappers : SameWrappers a b
  pub header : a.header ≡ b.header
  pub frame : frame_of a ≡ frame_of b

-- bytes differ first at a place; past the end of one of them there is none
pub record DifferAt (xs ys : List ℕ) (place : ℕ) : Type 0 where
  pub before : take place xs ≡ take place ys
  pub here : slice_get xs place ≢ slice_get ys place

-- the line of a header's part that has a place
abbrev pub part_line : Part → Demo → Demo → ℕ → List ℕ
part_line (part.Field field) a b place =
    told (field_row field).name (number_text (unwrap_or (number_in field a.layout a.header) 0))
    (number_text (unwrap_or (number_in field b.layout b.header) 0))
part_line (part.Comp number) a b place =
    told (labelled (codes "comp") number) (number_text (slice_index a.header place)) (number_text (slice_index b.header place))
part_line part.Players a b place = told (codes "players") (numbers_text (players_in_game a)) (numbers_text (players_in_game b))
part_line _ a b place =
    told (labelled (codes "byte") place) (number_text (slice_index a.header place)) (number_text (slice_index b.header place))

-- demos differ before their commands: the first of these that holds
pub data HeadsDiffer (a b : Demo) : List ℕ → Type 0 where
  in_wrapper : wrapper_text a.wrapper ≢ wrapper_text b.wrapper
      → HeadsDiffer a b (told (codes "wrapper") (wrapper_text a.wrapper) (wrapper_text b.wrapper))
  in_flags : wrapper_text a.wrapper ≡ wrapper_text b.wrapper → flags_of a.wrapper ≢ flags_of b.wrapper
      → HeadsDiffer a b (told (codes "flags") (number_text (flags_of a.wrapper)) (number_text (flags_of b.wrapper)))
  in_map_name : wrapper_text a.wrapper ≡ wrapper_text b.wrapper → flags_of a.wrapper ≡ flags_of b.wrapper
      → map_name_of a.wrapper ≢ map_name_of b.wrapper
      → HeadsDiffer a b (told (codes "map name") (numbers_text (map_name_of a.wrapper)) (numbers_text (map_name_of b.wrapper)))
  in_version : SameWrappers a b → version_of a ≢ version_of b
      → HeadsDiffer a b (told (codes "version") (number_text (version_of a)) (number_text (version_of b)))
  in_header : (place : ℕ) → SameWrappers a b → version_of a ≡ version_of b → DifferAt a.header b.header place
      → HeadsDiffer a b (part_line (part_of a.layout a.header place) a b place)
  in_frame_size : SameWrappers a b → a.header ≡ b.header → length (frame_of a) ≢ length (frame_of b)
      → HeadsDiffer a b (told (codes "key frame") (number_text (length (frame_of a))) (number_text (length (frame_of b))))
  in_frame : (place : ℕ) → SameWrappers a b → a.header ≡ b.header → length (frame_of a) ≡ length (frame_of b)
      → DifferAt (frame_of a) (frame_of b) place
      → HeadsDiffer a b (told (labelled (codes "key frame byte") place) (number_text (slice_index (frame_of a) place)) (number_text (slice_index (frame_of b) place)))

-- What of a command is compared: all that it has, or what it does in the game, whatever its form. A turn of one byte is the high one.
abbrev pub meaning_of : Compared → Demo → LaterCommand → Meaning
meaning_of Everything demo c = record {
  forward = c.ticcmd.forward;
  side = c.ticcmd.side;
  turn = c.ticcmd.turn;
  buttons = c.ticcmd.buttons;
  actions = c.actions;
}
meaning_of Commands demo c = record {
  forward = c.ticcmd.forward;
  side = c.ticcmd.side;
  turn = if demo.layout.long then c.ticcmd.turn else 256 * c.ticcmd.turn;
  buttons = c.ticcmd.buttons;
  actions = None;
}

-- `tic 118 player 1: 50 0 0 00, 25 0 0 00`
abbrev pub command_line : ℕ → ℕ → LaterCommand → LaterCommand → List ℕ
command_line tic player a b =
    codes "tic " ++ (decimal tic ++ (codes " player " ++ (decimal player ++ (codes ": " ++ (command_text a ++ (codes ", " ++ (command_text b ++ 10 ∷ [])))))))

-- `A ends at tic 118`
abbrev pub end_line : List ℕ → ℕ → List ℕ
end_line name tic = name ++ (codes " ends at tic " ++ (decimal tic ++ 10 ∷ []))

-- commands differ: in the first that does, or one demo has all commands of the other and more; players are told by those of A
pub data CommandsDiffer (what : Compared) (a b : Demo) : List ℕ → Type 0 where
  in_command : (i : ℕ) (x y : LaterCommand)
      → map (meaning_of what a) (take i a.commands) ≡ map (meaning_of what b) (take i b.commands)
      → slice_get a.commands i ≡ Some x → slice_get b.commands i ≡ Some y → meaning_of what a x ≢ meaning_of what b y
      → CommandsDiffer what a b (command_line (tic_of (players_in_game a) i) (player_of (players_in_game a) i) x y)
  a_ends : map (meaning_of what a) a.commands ≡ map (meaning_of what b) (take (length a.commands) b.commands)
      → length a.commands < length b.commands
      → CommandsDiffer what a b (end_line (codes "A") (tic_of (players_in_game a) (length a.commands)))
  b_ends : map (meaning_of what a) (take (length b.commands) a.commands) ≡ map (meaning_of what b) b.commands
      → length b.commands < length a.commands
      → CommandsDiffer what a b (end_line (codes "B") (tic_of (players_in_game a) (length b.commands)))

-- `players 1, 2`
abbrev pub counts_line : ℕ → ℕ → List ℕ
counts_line a b = labelled (codes "players") a ++ (labelled (codes ",") b ++ 10 ∷ [])

-- how many players are in the game
abbrev pub player_count : Demo → ℕ
player_count demo = players_in (players_in_game demo)

-- what is compared before the commands: all that stands there, or how many players are in the game
abbrev pub SameFront : Compared → Demo → Demo → Type 0
SameFront Everything a b = SameHeads a b
SameFront Commands a b = player_count a ≡ player_count b

-- it differs
abbrev pub FrontDiffers : Compared → Demo → Demo → List ℕ → Type 0
FrontDiffers Everything a b text = HeadsDiffer a b text
FrontDiffers Commands a b text = (player_count a ≢ player_count b) × (text ≡ counts_line (player_count a) (player_count b))

-- demos differ, in all or in their commands alone: before these, or else in them
pub data Differs (what : Compared) (a b : Demo) : List ℕ → Type 0 where
  in_front : (text : List ℕ) → FrontDiffers what a b text → Differs what a b text
  in_commands : (text : List ℕ) → SameFront what a b → CommandsDiffer what a b text → Differs what a b text

-- demos mean the same by their commands
abbrev pub SameCommands : Compared → Demo → Demo → Type 0
SameCommands what a b = map (meaning_of what a) a.commands ≡ map (meaning_of what b) b.commands

-- demos are the same, in all that is compared
abbrev pub AreSame : Compared → Demo → Demo → Type 0
AreSame what a b = SameFront what a b × SameCommands what a b

-- nothing is told of demos that are the same
pub record FindsNone (what : Compared) (a b : Demo) (before after : SinkState) (result : Result Bool IoFault) : Type 0 where
  pub are : AreSame what a b
  pub answered : result ≡ Ok true
  pub untouched : after ≡ before

-- where they differ is written
pub record TellsDifference (what : Compared) (a b : Demo) (before after : SinkState) (result : Result Bool IoFault) : Type 0 where
  pub text : List ℕ
  pub differs : Differs what a b text
  pub writes : Writes before after text result
  pub answered : IfOk result (λ are_same. are_same ≡ false)

abbrev pub Compares : Compared → Demo → Demo → SinkState → SinkState → Result Bool IoFault → Type 0
Compares what a b before after result = FindsNone what a b before after result ⊎ TellsDifference what a b before after result

-- what is put before a line of two demos, and whether they are the same
pub data IsCompared (what : Compared) (a b : Demo) : List ℕ → Bool → Type 0 where
  same : AreSame what a b → IsCompared what a b [] true
  other : (text : List ℕ) → Differs what a b text → IsCompared what a b text false

-- the same of their commands alone
pub data AreCommandsCompared (what : Compared) (a b : Demo) : List ℕ → Bool → Type 0 where
  alike : SameCommands what a b → AreCommandsCompared what a b [] true
  unlike : (text : List ℕ) → CommandsDiffer what a b text → AreCommandsCompared what a b text false

-- behind so many commands that mean the same two differ
pub record StopsAtCommands (what : Compared) (a b : Demo) (i : ℕ) (x y : LaterCommand) : Type 0 where
  pub before : map (meaning_of what a) (take i a.commands) ≡ map (meaning_of what b) (take i b.commands)
  pub of_a : slice_get a.commands i ≡ Some x
  pub of_b : slice_get b.commands i ≡ Some y
  pub differ : meaning_of what a x ≢ meaning_of what b y

-- or one demo ends, or both do
abbrev pub StopsAt : Compared → Demo → Demo → ℕ → Stop → Type 0
StopsAt what a b i Same = SameCommands what a b
StopsAt what a b i (Differ x y) = StopsAtCommands what a b i x y
StopsAt what a b i EndOfA =
    (map (meaning_of what a) a.commands ≡ map (meaning_of what b) (take (length a.commands) b.commands))
    × (length a.commands < length b.commands) × (i ≡ length a.commands)
StopsAt what a b i EndOfB =
    (map (meaning_of what a) (take (length b.commands) a.commands) ≡ map (meaning_of what b) b.commands)
    × (length b.commands < length a.commands) × (i ≡ length b.commands)
