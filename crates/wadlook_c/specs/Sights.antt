-- What is told of a sight (ours).
use Rattle.std.specs.Prelude.{◌≡◌, ℕ, Bool, true, false, List, Option, Some}
use Rattle.map_tables.specs.Reject.{Reject, bits_of}

-- the bits of REJECT's bytes
abbrev pub reject_of : List ℕ → ℕ → Reject
reject_of bytes sectors = record { bits = bits_of bytes; sectors = sectors }

-- 1 where the bit is there and refuses, 0 where it is there and doesn't
abbrev pub bit_number : Bool → ℕ
bit_number true = 1
bit_number false = 0

abbrev pub TellsSight : Option Bool → ℕ → Type 0
TellsSight bit told = (refused : Bool) × (bit ≡ Some refused) × (told ≡ bit_number refused)
