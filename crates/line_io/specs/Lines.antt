-- The lines of an input and what they hold (ours).
use Rattle.std.specs.Prelude.{◌≡◌, ◌≢◌, ◌⊎◌, ℕ, ◌-◌, ◌<◌, ◌≤◌, List, [], ◌∷◌, ◌++◌, length, map, take, slice_index, ◌==◌, if◌then◌else◌}
use Rattle.std.specs.List.{All, flat_map}

-- the parts of `input` that a byte 10 ends, the first of them begun by `part`
abbrev pub ended_from : List ℕ → List ℕ → List (List ℕ)
ended_from part [] = []
ended_from part (b ∷ input) =
    if b == 10 then part ∷ ended_from [] input else ended_from (part ++ b ∷ []) input

-- the part after the last byte 10 of `input`, begun by `part` where there is none
abbrev pub last_from : List ℕ → List ℕ → List ℕ
last_from part [] = part
last_from part (b ∷ input) =
    if b == 10 then last_from [] input else last_from (part ++ b ∷ []) input

-- the last part, which is a line unless it is empty
abbrev pub last_line : List ℕ → List (List ℕ)
last_line [] = []
last_line (b ∷ part) = (b ∷ part) ∷ []

-- the lines of an input: its parts between bytes 10
abbrev pub lines : List ℕ → List (List ℕ)
lines input = ended_from [] input ++ last_line (last_from [] input)

-- a line without one byte 13 at its end
abbrev pub content : List ℕ → List ℕ
content line =
    if slice_index line (length line - 1) == 13 then take (length line - 1) line else line

-- `parts` are the lines of `input`: those that a byte 10 ends, and a last part, which is one only if it isn't empty. Joined with these bytes 10 they are
-- the input, and none holds a byte 10
pub record AreLines (input : List ℕ) (parts : List (List ℕ)) : Type 0 where
  pub ended : List (List ℕ)
  pub last : List ℕ
  pub joined : flat_map (λ line. line ++ 10 ∷ []) ended ++ last ≡ input
  pub unbroken : All (All (λ b. b ≢ 10)) ended
  pub last_unbroken : All (λ b. b ≢ 10) last
  pub parts_are : parts ≡ ended ++ last_line last

-- `inside` is `line` without one byte 13 at its end
abbrev pub IsContent : List ℕ → List ℕ → Type 0
IsContent line inside =
    (line ≡ inside ++ 13 ∷ []) ⊎ ((line ≡ inside) × ((front : List ℕ) → line ≢ front ++ 13 ∷ []))

-- so many bytes of a block are whole lines, each with the byte 10 that ends it
pub record TakesLines (block : List ℕ) (count : ℕ) : Type 0 where
  pub within : count ≤ length block
  pub whole : last_from [] (take count block) ≡ []

-- bytes begin with whole lines of these contents, of at most 64 bytes each, and go on with `rest`
pub record BeginsWith (bytes : List ℕ) (contents : List (List ℕ)) (rest : List ℕ) : Type 0 where
  pub done : List ℕ
  pub joined : bytes ≡ done ++ rest
  pub whole : last_from [] done ≡ []
  pub contents_are : map content (ended_from [] done) ≡ contents
  pub short : All (λ inside. length inside ≤ 64) contents

-- bytes begin with a line that a byte 10 ends, and its content has more than 64 bytes
pub record BeginsLong (bytes : List ℕ) : Type 0 where
  pub line : List ℕ
  pub rest : List ℕ
  pub joined : bytes ≡ line ++ 10 ∷ rest
  pub unbroken : All (λ b. b ≢ 10) line
  pub long : 64 < length (content line)
