-- The most commands that bytes begin with.
use Rattle.std.proofs.Common.{◌≡◌, ℕ, zero, suc, ◌*◌, ◌≤◌, true, false, List, [], ◌∷◌, length, drop, refl, sym, ap, ◌∙◌, inl, inr, arith, length-drop}
use Rattle.std.proofs.lemmas.Bool.{and_parts, cases_Bool, cond-false, cond-true, leb-true}
use Rattle.std.proofs.lemmas.Bool.Decides.{nat_tests}
use Rattle.later_demos.specs.Command.{begins, command_of, command_size, commands_in, commands_within, left_in, left_within}
use Rattle.later_demos.specs.declared.command.CommandForm.{CommandForm}

-- a command has four bytes or more
pub size_least : (form : CommandForm) (bytes : List ℕ) → 4 ≤ command_size form bytes
unfolding command_size
size_least form bytes = grind (arith, nat_tests)

-- bytes that begin with a command have those of the command
pub begins_room : (form : CommandForm) (bytes : List ℕ) → begins form bytes ≡ true
    → command_size form bytes ≤ length bytes
unfolding begins
begins_room form bytes h = leb-true _ _ (and_parts _ _ h).0

pub none_begins : (form : CommandForm) (bytes : List ℕ) → length bytes ≤ 0 → begins form bytes ≡ false
none_begins form bytes short = elim (cases_Bool (begins form bytes)) [
  | inl some ↦ absurd (omega (arith, begins_room form bytes some, size_least form bytes))
  | inr none ↦ none
]

-- what follows a command has fewer bytes
pub fewer : (n : ℕ) (form : CommandForm) (bytes : List ℕ) → begins form bytes ≡ true
    → length bytes ≤ suc n → length (drop (command_size form bytes) bytes) ≤ n
fewer n form bytes some fits =
    omega (arith, length-drop (command_size form bytes) bytes, size_least form bytes, begins_room form bytes some)

-- it doesn't matter how many more are looked at
pub commands_same : (n m : ℕ) (form : CommandForm) (bytes : List ℕ) → length bytes ≤ n → length bytes ≤ m
    → commands_within n form bytes ≡ commands_within m form bytes
commands_same zero zero form bytes h k = refl
commands_same zero (suc m) form bytes h k = sym (cond-false _ _ _ (none_begins form bytes h))
commands_same (suc n) zero form bytes h k = cond-false _ _ _ (none_begins form bytes k)
commands_same (suc n) (suc m) form bytes h k = elim (cases_Bool (begins form bytes)) [
  | inl some ↦
      cond-true _ _ _ some
      ∙ ap (λ cs. command_of form bytes ∷ cs) (commands_same n m form (drop (command_size form bytes) bytes) (fewer n form bytes some h) (fewer m form bytes some k))
      ∙ sym (cond-true _ _ _ some)
  | inr none ↦ cond-false _ _ _ none ∙ sym (cond-false _ _ _ none)
]

pub left_same : (n m : ℕ) (form : CommandForm) (bytes : List ℕ) → length bytes ≤ n → length bytes ≤ m
    → left_within n form bytes ≡ left_within m form bytes
left_same zero zero form bytes h k = refl
left_same zero (suc m) form bytes h k = sym (cond-false _ _ _ (none_begins form bytes h))
left_same (suc n) zero form bytes h k = cond-false _ _ _ (none_begins form bytes k)
left_same (suc n) (suc m) form bytes h k = elim (cases_Bool (begins form bytes)) [
  | inl some ↦
      cond-true _ _ _ some
      ∙ left_same n m form (drop (command_size form bytes) bytes) (fewer n form bytes some h) (fewer m form bytes some k)
      ∙ sym (cond-true _ _ _ some)
  | inr none ↦ cond-false _ _ _ none ∙ sym (cond-false _ _ _ none)
]

-- a command at the front, and those behind it
pub commands_more : (form : CommandForm) (bytes : List ℕ) → begins form bytes ≡ true
    → commands_in form bytes ≡ command_of form bytes ∷ commands_in form (drop (command_size form bytes) bytes)
unfolding commands_in
commands_more form bytes some =
    let behind = drop (command_size form bytes) bytes in
    let enough : length behind ≤ length bytes = omega (arith, length-drop (command_size form bytes) bytes) in
    commands_same (length bytes) (suc (length bytes)) form bytes (omega arith) (omega arith)
    ∙ cond-true _ _ _ some
    ∙ ap (λ cs. command_of form bytes ∷ cs) (commands_same (length bytes) (length behind) form behind enough (omega arith))

pub left_more : (form : CommandForm) (bytes : List ℕ) → begins form bytes ≡ true
    → left_in form bytes ≡ left_in form (drop (command_size form bytes) bytes)
unfolding left_in
left_more form bytes some =
    let behind = drop (command_size form bytes) bytes in
    let enough : length behind ≤ length bytes = omega (arith, length-drop (command_size form bytes) bytes) in
    left_same (length bytes) (suc (length bytes)) form bytes (omega arith) (omega arith)
    ∙ cond-true _ _ _ some
    ∙ left_same (length bytes) (length behind) form behind enough (omega arith)

-- or none
pub commands_end : (form : CommandForm) (bytes : List ℕ) → begins form bytes ≡ false → commands_in form bytes ≡ []
unfolding commands_in
commands_end form bytes none =
    commands_same (length bytes) (suc (length bytes)) form bytes (omega arith) (omega arith)
    ∙ cond-false _ _ _ none

pub left_end : (form : CommandForm) (bytes : List ℕ) → begins form bytes ≡ false → left_in form bytes ≡ bytes
unfolding left_in
left_end form bytes none =
    left_same (length bytes) (suc (length bytes)) form bytes (omega arith) (omega arith)
    ∙ cond-false _ _ _ none

-- there are fewer commands than bytes
pub count_within : (n : ℕ) (form : CommandForm) (bytes : List ℕ) → length bytes ≤ n
    → 4 * length (commands_within n form bytes) ≤ length bytes
count_within zero form bytes h = omega arith
count_within (suc n) form bytes h = elim (cases_Bool (begins form bytes)) [
  | inl some ↦
      let next = count_within n form (drop (command_size form bytes) bytes) (fewer n form bytes some h) in
      let is = ap length (cond-true (begins form bytes) (command_of form bytes ∷ commands_within n form (drop (command_size form bytes) bytes)) [] some) in
      omega (arith, next, is, length-drop (command_size form bytes) bytes, size_least form bytes, begins_room form bytes some)
  | inr none ↦
      let is = ap length (cond-false (begins form bytes) (command_of form bytes ∷ commands_within n form (drop (command_size form bytes) bytes)) [] none) in
      omega (arith, is)
]

pub count_fits : (form : CommandForm) (bytes : List ℕ) → 4 * length (commands_in form bytes) ≤ length bytes
unfolding commands_in
count_fits form bytes = count_within (length bytes) form bytes (omega arith)
