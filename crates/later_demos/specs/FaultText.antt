-- Why bytes are no demo, in words (ours).
use Rattle.std.specs.Prelude.{ℕ, ◌/◌, ◌%◌, nat_lt, if◌then◌else◌, List, [], ◌∷◌, ◌++◌, codes}
use Rattle.std.specs.Fmt.{decimal}
use Rattle.le_rec.specs.Name.{hex_digit}
use Rattle.later_demos.specs.Layout.{name_of, signature_of}
use Rattle.later_demos.specs.declared.fault.LaterFault.{LaterFault}
use Rattle.later_demos.specs.declared.fault.LaterFault.TheVariants.{Empty, Version, Dsda, PrUm, Short, Signature, Options, NoPlayers, KeyFrame, NoMarker}
use Rattle.later_demos.specs.declared.layout.Engine.{Engine}

-- bytes in hexadecimal digits, with a space between
abbrev pub hex_bytes : List ℕ → List ℕ
hex_bytes [] = []
hex_bytes (byte ∷ []) = hex_digit (byte / 16) ∷ hex_digit (byte % 16) ∷ []
hex_bytes (byte ∷ next ∷ bytes) =
    hex_digit (byte / 16) ∷ hex_digit (byte % 16) ∷ 32 ∷ hex_bytes (next ∷ bytes)

abbrev pub signature_digits : Engine → List ℕ
signature_digits engine = hex_bytes (signature_of engine)

-- whose version it is that is told, though it isn't read: demos of Doom 1.2 and before begin with the skill
abbrev pub early_text : ℕ → List ℕ
early_text version = if nat_lt version 5 then codes " (1.2 and before)" else []

-- why bytes are no demo
abbrev pub fault_text : LaterFault → List ℕ
fault_text Empty = codes "empty"
fault_text (Version version) = codes "version " ++ (decimal version ++ (early_text version ++ codes ": not read"))
fault_text (Dsda version) = codes "version 255 (DSDA " ++ (decimal version ++ codes "): not read")
fault_text PrUm = codes "version 255 (PR+UM): not read"
fault_text (Short long wanted) = decimal long ++ (codes " bytes of a header's " ++ decimal wanted)
fault_text (Signature version engine) =
    codes "version " ++ (decimal version ++ (codes " (" ++ (name_of engine ++ (codes "): its signature isn't " ++ signature_digits engine))))
fault_text (Options count) = decimal count ++ codes " compatibility options, 25 are the most"
fault_text NoPlayers = codes "no player in the game"
fault_text KeyFrame = codes "its key frame isn't whole"
fault_text (NoMarker place) =
    codes "no end marker: the bytes from place " ++ (decimal place ++ codes " on make no whole command")
