-- The answers to lines of so many numbers (ours).
use Rattle.std.specs.Prelude.{◌≡◌, ◌≢◌, ℕ, ℤ, List, [], ◌∷◌, ◌++◌, length, codes}
use Rattle.line_io.specs.LineAnswers.{form_refused}
use Rattle.line_io.specs.Numbers.{AreNumbers, HasForm}
use Rattle.line_io.specs.declared.refusal.LineRefusal.{LineRefusal}
use Rattle.line_io.specs.declared.refusal.LineRefusal.TheVariants.{Form, Range}

-- the answer to a line with a number that isn't allowed
abbrev pub range_refused : List ℕ
range_refused = codes "refused: range" ++ 10 ∷ []

-- the answers to contents: allowed numbers get their text; as many numbers that aren't allowed, and other contents, are refused
pub record AnswersNumbers (count : ℕ) (Allowed : List ℤ → Type 0) (Tells : List ℤ → List ℕ → Type 0) (answer : List ℕ → List ℕ) : Type 0 where
  pub told : (content : List ℕ) (numbers : List ℤ) → AreNumbers content numbers → length numbers ≡ count → Allowed numbers → Tells numbers (answer content)
  pub range : (content : List ℕ) (numbers : List ℤ) → AreNumbers content numbers → length numbers ≡ count → ¬ Allowed numbers → answer content ≡ range_refused
  pub form : (content : List ℕ) → ((numbers : List ℤ) → AreNumbers content numbers → length numbers ≢ count) → answer content ≡ form_refused

-- a property of two numbers, of a list of just them
abbrev pub OfTwo : (ℤ → ℤ → Type 0) → List ℤ → Type 0
OfTwo P (x ∷ y ∷ []) = P x y
OfTwo P _ = ⊥

-- the answers to contents of two numbers
abbrev pub AnswersPairs : (ℤ → ℤ → Type 0) → (ℤ → ℤ → List ℕ → Type 0) → (List ℕ → List ℕ) → Type 0
AnswersPairs Allowed Tells = AnswersNumbers 2 (OfTwo Allowed) (λ numbers text. OfTwo (λ x y. Tells x y text) numbers)

-- why a content is refused: it isn't so many numbers, or they aren't allowed
abbrev pub RefusesContent : ℕ → (List ℤ → Type 0) → List ℕ → LineRefusal → Type 0
RefusesContent count Allowed content Form = (numbers : List ℤ) → ¬ HasForm count content numbers
RefusesContent count Allowed content Range = (numbers : List ℤ) × HasForm count content numbers × (¬ Allowed numbers)

-- the answer to a refused content
abbrev pub refusal_text : LineRefusal → List ℕ
refusal_text Form = form_refused
refusal_text Range = range_refused
