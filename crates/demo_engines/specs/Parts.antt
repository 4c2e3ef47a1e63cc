-- The parts of a listing (ours): what the bytes of a demo can hold, and what stands in a line behind its labels.
use Rattle.std.specs.Prelude.{◌≡◌, ◌≢◌, ℕ, ◌<◌, negsuc, List, [], ◌∷◌, ◌++◌, length, codes, slice_index}
use Rattle.std.specs.Fmt.{decimal, signed_decimal}
use Rattle.std.specs.Int.{w8}
use Rattle.std.specs.Int.RustNames.{FitsSigned}
use Rattle.demo_lump.specs.Header.{IsVersion, players_in}
use Rattle.demo_lump.specs.declared.command.Command.{Command}
use Rattle.demo_lump.specs.declared.header.Header.{Header}
use Rattle.le_rec.specs.Bytes.{AreBytes}
use Rattle.look_engines.specs.Listing.{hex_byte}

-- a text that goes on with no byte of a kind
pub data Stops (P : ℕ → Type 0) : List ℕ → Type 0 where
  ended : Stops P []
  other : (byte : ℕ) (rest : List ℕ) → ¬ P byte → Stops P (byte ∷ rest)

-- a command that the bytes of a version can hold: its first byte isn't the marker, and but for the long form its turn is one byte
pub record FitsCommand (version : ℕ) (c : Command) : Type 0 where
  pub forward : FitsSigned w8 c.forward
  pub side : FitsSigned w8 c.side
  pub turn : c.turn < 65536
  pub small : version ≢ 111 → c.turn < 256
  pub buttons : c.buttons < 256
  pub unmarked : c.forward ≢ negsuc 127

-- all numbers of a header, in order
abbrev pub numbers_of : Header → List ℕ
numbers_of h =
    h.version ∷ h.skill ∷ h.episode ∷ h.map ∷ h.deathmatch ∷ h.respawn ∷ h.fast ∷ h.no_monsters ∷ h.viewpoint
    ∷ slice_index h.players 0 ∷ slice_index h.players 1 ∷ slice_index h.players 2 ∷ slice_index h.players 3 ∷ []

-- a header that bytes can hold, of a version that is read and with a player in the game
pub record FitsHeader (h : Header) : Type 0 where
  pub numbers : AreBytes (numbers_of h)
  pub version : IsVersion h.version
  pub long : length h.players ≡ 4
  pub some : 0 < players_in h.players

-- what a line tells of a command, and what comes behind it
abbrev pub command_fields : Command → List ℕ → List ℕ
command_fields c end =
    signed_decimal c.forward ++ (32 ∷ (signed_decimal c.side ++ (32 ∷ (decimal c.turn ++ (32 ∷ (hex_byte c.buttons ++ end))))))

-- a command's line in front of its fields
abbrev pub front_of : ℕ → ℕ → List ℕ
front_of tic player = decimal tic ++ (32 ∷ (decimal player ++ 32 ∷ []))

-- the totals' line in front of its last number
abbrev pub totals_front : ℕ → ℕ → List ℕ
totals_front tics odd = codes "tics " ++ (decimal tics ++ (codes " odd " ++ (decimal odd ++ codes " after ")))

-- numbers behind their labels, and what comes behind them
abbrev pub fields : List (List ℕ) → List ℕ → List ℕ → List ℕ
fields [] numbers end = end
fields (label ∷ labels) [] end = end
fields (label ∷ labels) (n ∷ numbers) end = label ++ (decimal n ++ fields labels numbers end)
