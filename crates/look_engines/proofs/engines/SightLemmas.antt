-- There are answers of `sight` over each level.
use Rattle.std.proofs.Common.{◌≡◌, ℕ, ℤ, pos, negsuc, List, refl}
use Rattle.line_io.proofs.NumberAnswersLemmas.{decide_two, some_answers, two_texts}
use Rattle.map_tables.specs.Reject.{Reject, sight_bit}
use Rattle.look_engines.specs.Contents.{AreSectors}
use Rattle.look_engines.specs.Engines.Sight.{AnswersSight, TellsSight, sight_text}
use Rattle.look_engines.proofs.ContentsLemmas.{sectors_or_not}

told : (reject : Reject) (x y : ℤ) → AreSectors reject.sectors x y → (text : List ℕ) × TellsSight reject x y text
told reject (pos a) (pos b) both = (sight_text (pos a) (pos b) (sight_bit reject a b), λ c d is_c is_d. let same_a : a ≡ c = cc in let same_b : b ≡ d = cc in rw (same_a, same_b) refl)
told reject (pos a) (negsuc b) both = absurd both.1
told reject (negsuc a) y both = absurd both.0

pub sight_is_answered : (reject : Reject) → (answer : List ℕ → List ℕ) × AnswersSight reject answer
sight_is_answered reject = some_answers (decide_two (sectors_or_not reject.sectors)) (two_texts (told reject))
