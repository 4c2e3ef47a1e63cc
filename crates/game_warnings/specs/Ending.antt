-- W21: things at which the first game ends the reading of a level's things (P_LoadThings of p_setup.c).
use Rattle.std.specs.Prelude.{◌≡◌, ◌&&◌, ◌==◌, ℕ, ◌+◌, nat_le, Bool, List, [], length, slice_index_or, if◌then◌else◌}
use Rattle.std.specs.List.{position_or_len}
use Rattle.game_numbers.specs.Kinds.{second_game}
use Rattle.game_numbers.specs.Number.{is_one_of}
use Rattle.le_rec.specs.Name.{padded}
use Rattle.map_level.specs.Level.{Level}
use Rattle.map_level.specs.Links.{things_of}

-- a byte is a digit
abbrev pub is_digit : ℕ → Bool
is_digit byte = nat_le 48 byte && nat_le byte 57

-- the eight bytes of a name of the first game's levels: `E`, a digit, `M`, a digit, and no more
abbrev pub is_episodic : List ℕ → Bool
is_episodic bytes =
    slice_index_or bytes 0 0 == 69 && is_digit (slice_index_or bytes 1 0) && slice_index_or bytes 2 0 == 77
    && is_digit (slice_index_or bytes 3 0) && slice_index_or bytes 4 0 == 0

-- a level is one of the first game's
abbrev pub is_first_game : Level → Bool
is_first_game level = is_episodic (padded (slice_index_or level.names 0 []))

-- how many things are read: in a level of the first game those before the first of a kind that it doesn't have
abbrev pub read_count : Level → ℕ
read_count level =
    if is_first_game level then position_or_len (λ thing. is_one_of second_game thing.kind) (things_of level) else length (things_of level)

-- the reading ends at thing k, and so many things follow it
abbrev pub EndsThings : Level → ℕ → ℕ → Type 0
EndsThings level k follow = (k ≡ read_count level) × (length (things_of level) ≡ k + 1 + follow)
