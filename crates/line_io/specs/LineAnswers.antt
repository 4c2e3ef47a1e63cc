-- The answers to the lines of an input (ours): one for each line, in order.
use Rattle.std.specs.Prelude.{ℕ, List, [], ◌∷◌, ◌++◌, length, nat_lt, if◌then◌else◌, codes}
use Rattle.std.specs.List.{flat_map}
use Rattle.line_io.specs.Lines.{content, ended_from, last_line, lines}

-- the answer to a line whose content has no allowed form
abbrev pub form_refused : List ℕ
form_refused = codes "refused: form" ++ 10 ∷ []

-- the answer to a line: by `answer` from its content, if that has at most 64 bytes
unfoldable pub line_answer : (List ℕ → List ℕ) → List ℕ → List ℕ
line_answer answer line =
    if nat_lt 64 (length (content line)) then form_refused else answer (content line)

-- the answers to the lines of `input` that a byte 10 ends, the first of them begun by `part`
unfoldable pub answers_from : (List ℕ → List ℕ) → List ℕ → List ℕ → List ℕ
answers_from answer part input = flat_map (line_answer answer) (ended_from part input)

-- the answer to a last part
unfoldable pub last_answer : (List ℕ → List ℕ) → List ℕ → List ℕ
last_answer answer part = flat_map (line_answer answer) (last_line part)

-- the text of an input: the answers to its lines
unfoldable pub text_of : (List ℕ → List ℕ) → List ℕ → List ℕ
text_of answer input = flat_map (line_answer answer) (lines input)
