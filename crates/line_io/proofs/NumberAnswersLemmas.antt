-- What a content of so many numbers is answered, by what it was read as.
use Rattle.std.proofs.Common.{◌≡◌, ◌≢◌, ℕ, ◌≤◌, ℤ, pos, List, [], ◌∷◌, length, map, get_or, Option, Some, None, ◌⊎◌, inl, inr, refl, ap, ◌∙◌, subst, arith}
use Rattle.std.proofs.lemmas.Bool.{cases_eq}
use Rattle.line_io.specs.LineAnswers.{form_refused}
use Rattle.line_io.specs.Numbers.{AreNumbers, HasForm, nearest, numbers_of}
use Rattle.line_io.proofs.PartsLemmas.{by_parts}
use Rattle.line_io.specs.NumberAnswers.{AnswersNumbers, OfTwo, RefusesContent, range_refused, refusal_text}
use Rattle.line_io.specs.declared.refusal.LineRefusal.{LineRefusal}
use Rattle.line_io.specs.declared.refusal.LineRefusal.TheVariants.{Form, Range}

-- a refused content is answered its refusal
pub told_refusal : {count : ℕ} {Allowed : List ℤ → Type 0} {Tells : List ℤ → List ℕ → Type 0} {answer : List ℕ → List ℕ} {content : List ℕ}
    → AnswersNumbers count Allowed Tells answer → length content ≤ 64 → (why : LineRefusal) → RefusesContent count Allowed content why → answer content ≡ refusal_text why
told_refusal {content = content} answers short Form none = answers.form content (λ numbers are counted. none numbers (record { short = short; counted = counted; read = are }))
told_refusal {content = content} answers short Range (numbers, form, not_allowed) = answers.range content numbers form.read form.counted not_allowed

-- numbers are allowed exactly where their nearest `i32`s are, and are those then
pub record IsNearAllowed (Allowed : ℤ → Type 0) : Type 0 where
  pub near : (z : ℤ) → Allowed z → nearest z ≡ z
  pub exact : (z : ℤ) → Allowed (nearest z) → nearest z ≡ z

-- two numbers that were read are allowed where their nearest `i32`s are
module _ (Allowed : ℤ → Type 0) (is_near : IsNearAllowed Allowed) where
  -- the numbers of a content, both allowed
  pub both_allowed : (content : List ℕ) (exact values : List ℤ) → HasForm 2 content exact → values ≡ map nearest exact
      → Allowed (get_or values 0 (pos 0)) → Allowed (get_or values 1 (pos 0))
      → HasForm 2 content (get_or values 0 (pos 0) ∷ get_or values 1 (pos 0) ∷ [])
  both_allowed content [] values form are first second = absurd (omega (arith, form.counted))
  both_allowed content (x ∷ []) values form are first second = absurd (omega (arith, form.counted))
  both_allowed content (x ∷ y ∷ []) values form are first second =
      let x_is : get_or values 0 (pos 0) ≡ nearest x = ap (λ (vs : List ℤ). get_or vs 0 (pos 0)) are in
      let y_is : get_or values 1 (pos 0) ≡ nearest y = ap (λ (vs : List ℤ). get_or vs 1 (pos 0)) are in
      rw (x_is ∙ is_near.exact x (subst Allowed x_is first), y_is ∙ is_near.exact y (subst Allowed y_is second)) form
  both_allowed content (x ∷ y ∷ z ∷ more) values form are first second = absurd (omega (arith, form.counted))

-- there are answers to lines of so many numbers where it can be told which are allowed, and those have a text
module _ {count : ℕ} {Allowed : List ℤ → Type 0} {Tells : List ℤ → List ℕ → Type 0}
    (decide : (numbers : List ℤ) → length numbers ≡ count → Allowed numbers ⊎ (¬ Allowed numbers))
    (some_text : (numbers : List ℤ) → length numbers ≡ count → Allowed numbers → (text : List ℕ) × Tells numbers text) where
  abbrev answer_allowed : (numbers : List ℤ) → length numbers ≡ count → Allowed numbers ⊎ (¬ Allowed numbers) → List ℕ
  answer_allowed numbers counted (inl allowed) = (some_text numbers counted allowed).0
  answer_allowed numbers counted (inr not) = range_refused

  abbrev answer_counted : (numbers : List ℤ) → (length numbers ≡ count) ⊎ (length numbers ≢ count) → List ℕ
  answer_counted numbers (inl counted) = answer_allowed numbers counted (decide numbers counted)
  answer_counted numbers (inr other) = form_refused

  abbrev answer_numbers : Option (List ℤ) → List ℕ
  answer_numbers (Some numbers) = answer_counted numbers (cases_eq (length numbers) count)
  answer_numbers None = form_refused

  told_allowed : (numbers : List ℤ) (counted : length numbers ≡ count) (d : Allowed numbers ⊎ (¬ Allowed numbers)) → Allowed numbers → Tells numbers (answer_allowed numbers counted d)
  told_allowed numbers counted (inl allowed) also = (some_text numbers counted allowed).1
  told_allowed numbers counted (inr not) allowed = absurd (not allowed)

  told_counted : (numbers : List ℤ) (d : (length numbers ≡ count) ⊎ (length numbers ≢ count)) → length numbers ≡ count → Allowed numbers → Tells numbers (answer_counted numbers d)
  told_counted numbers (inl counted) also allowed = told_allowed numbers counted (decide numbers counted) allowed
  told_counted numbers (inr other) counted allowed = absurd (other counted)

  refused_allowed : (numbers : List ℤ) (counted : length numbers ≡ count) (d : Allowed numbers ⊎ (¬ Allowed numbers)) → ¬ Allowed numbers → answer_allowed numbers counted d ≡ range_refused
  refused_allowed numbers counted (inl allowed) not = absurd (not allowed)
  refused_allowed numbers counted (inr not) also = refl

  refused_counted : (numbers : List ℤ) (d : (length numbers ≡ count) ⊎ (length numbers ≢ count)) → length numbers ≡ count → ¬ Allowed numbers → answer_counted numbers d ≡ range_refused
  refused_counted numbers (inl counted) also not = refused_allowed numbers counted (decide numbers counted) not
  refused_counted numbers (inr other) counted not = absurd (other counted)

  refused_other : (numbers : List ℤ) (d : (length numbers ≡ count) ⊎ (length numbers ≢ count)) → length numbers ≢ count → answer_counted numbers d ≡ form_refused
  refused_other numbers (inl counted) other = absurd (other counted)
  refused_other numbers (inr other) also = refl

  refused_content : (content : List ℕ) (o : Option (List ℤ)) → numbers_of content ≡ o → ((numbers : List ℤ) → AreNumbers content numbers → length numbers ≢ count) → answer_numbers o ≡ form_refused
  refused_content content None read none = refl
  refused_content content (Some numbers) read none = refused_other numbers (cases_eq (length numbers) count) (none numbers ((by_parts content numbers).1 read))

  pub some_answers : (answer : List ℕ → List ℕ) × AnswersNumbers count Allowed Tells answer
  some_answers = (
    λ content. answer_numbers (numbers_of content),
    record {
      told = λ content numbers are counted allowed. rw ((by_parts content numbers).0 are) (told_counted numbers (cases_eq (length numbers) count) counted allowed);
      range = λ content numbers are counted not. rw ((by_parts content numbers).0 are) (refused_counted numbers (cases_eq (length numbers) count) counted not);
      form = λ content none. refused_content content (numbers_of content) refl none;
    },
  )

-- whether two numbers are allowed can be told where it can of each
pub decide_two : {Allowed : ℤ → ℤ → Type 0} → ((x y : ℤ) → Allowed x y ⊎ (¬ Allowed x y)) → (numbers : List ℤ) → length numbers ≡ 2 → OfTwo Allowed numbers ⊎ (¬ OfTwo Allowed numbers)
decide_two decide [] two = absurd (omega (arith, two))
decide_two decide (x ∷ []) two = absurd (omega (arith, two))
decide_two decide (x ∷ y ∷ []) two = decide x y
decide_two decide (x ∷ y ∷ z ∷ more) two = absurd (omega (arith, two))

-- and they have a text where each two have
pub two_texts : {Allowed : ℤ → ℤ → Type 0} {Tells : ℤ → ℤ → List ℕ → Type 0} → ((x y : ℤ) → Allowed x y → (text : List ℕ) × Tells x y text)
    → (numbers : List ℤ) → length numbers ≡ 2 → OfTwo Allowed numbers → (text : List ℕ) × OfTwo (λ x y. Tells x y text) numbers
two_texts texts [] two allowed = absurd allowed
two_texts texts (x ∷ []) two allowed = absurd allowed
two_texts texts (x ∷ y ∷ []) two allowed = texts x y allowed
two_texts texts (x ∷ y ∷ z ∷ more) two allowed = absurd allowed
