-- Commands one after another are the most commands that bytes begin with.
use Rattle.std.proofs.Common.{◌≡◌, ◌≢◌, ℕ, zero, suc, ◌+◌, ◌≤◌, ◌<◌, true, false, Some, None, List, [], ◌∷◌, ◌++◌, length, take, drop, slice_index, ◌==◌, refl, sym, ap, ◌∙◌, inl, inr, arith, length-append, subst}
use Rattle.std.proofs.lemmas.Bool.{and_from, and_parts, and_right, cases_Bool, cond-false, cond-true, eqb-false, eqb-true, le-leb, ne_eqb, not_from_false, not-true, true≢false}
use Rattle.std.proofs.lemmas.Bool.Decides.{nat_tests}
use Rattle.std.proofs.lemmas.List.{append_assoc, drop_at, length-take-le, take-append-drop}
use Rattle.demo_lump.specs.Command.{long_command_of, short_command_of}
use Rattle.demo_lump.specs.Pieces.{NoneBegins}
use Rattle.later_demos.specs.Command.{AreCommands, IsCommand, actions_at, begins, command_of, command_size, commands_in, left_in, loads, saves, ticcmd_size}
use Rattle.later_demos.specs.declared.command.Actions.{Actions}
use Rattle.later_demos.specs.declared.command.CommandForm.{CommandForm}
use Rattle.later_demos.specs.declared.command.LaterCommand.{LaterCommand}
use Rattle.later_demos.proofs.CommandLemmas.{begins_room, commands_end, commands_more, fewer, left_end, left_more, none_begins, size_least}
use Rattle.later_demos.proofs.FrontLemmas.{chosen_same, left_index}

-- what every command has is in its first four or five bytes
long_same : (front more : List ℕ) → 5 ≤ length front → long_command_of (front ++ more) ≡ long_command_of front
long_same [] more h = absurd (omega arith)
long_same (a ∷ []) more h = absurd (omega arith)
long_same (a ∷ b ∷ []) more h = absurd (omega arith)
long_same (a ∷ b ∷ c ∷ []) more h = absurd (omega arith)
long_same (a ∷ b ∷ c ∷ d ∷ []) more h = absurd (omega arith)
long_same (a ∷ b ∷ c ∷ d ∷ e ∷ rest) more h = refl

short_same : (front more : List ℕ) → 4 ≤ length front → short_command_of (front ++ more) ≡ short_command_of front
short_same [] more h = absurd (omega arith)
short_same (a ∷ []) more h = absurd (omega arith)
short_same (a ∷ b ∷ []) more h = absurd (omega arith)
short_same (a ∷ b ∷ c ∷ []) more h = absurd (omega arith)
short_same (a ∷ b ∷ c ∷ d ∷ rest) more h = refl

-- actions with their slots are in the bytes that these count
actions_same : (front more : List ℕ) (at : ℕ)
    → at + 1 + saves (slice_index front at) + loads (slice_index front at) ≤ length front
    → actions_at (front ++ more) at ≡ actions_at front at
actions_same front more at h =
    let byte : slice_index (front ++ more) at ≡ slice_index front at = left_index front more at (omega arith) in
    let first =
    chosen_same (saves (slice_index front at) == 1) (Some (slice_index (front ++ more) (at + 1))) (Some (slice_index front (at + 1))) None None
    (λ e. ap (λ (n : ℕ). Some n) (left_index front more (at + 1) (omega (arith, eqb-true _ _ e)))) (λ _. refl) in
    let second =
    chosen_same (loads (slice_index front at) == 1) (Some (slice_index (front ++ more) (at + 1 + saves (slice_index front at)))) (Some (slice_index front (at + 1 + saves (slice_index front at)))) None None
    (λ e. ap (λ (n : ℕ). Some n) (left_index front more (at + 1 + saves (slice_index front at)) (omega (arith, eqb-true _ _ e)))) (λ _. refl) in
    rw (byte, first, second) refl

-- a command is no shorter than what every command has, and longer where it has actions
size_at_least : (form : CommandForm) (bytes : List ℕ) → ticcmd_size form ≤ command_size form bytes
unfolding command_size
size_at_least form bytes = grind (arith, nat_tests)

size_above : (form : CommandForm) (bytes : List ℕ) → form.actions ≡ true → ticcmd_size form < command_size form bytes
unfolding command_size
size_above form bytes there = omega (arith, cond-true form.actions (ticcmd_size form + 1 + saves (slice_index bytes (ticcmd_size form)) + loads (slice_index bytes (ticcmd_size form))) (ticcmd_size form) there)

-- a command's length doesn't depend on what follows
size_same : (form : CommandForm) (front more : List ℕ) → (form.actions ≡ true → ticcmd_size form < length front)
    → command_size form (front ++ more) ≡ command_size form front
unfolding command_size
size_same form front more inside =
    chosen_same form.actions _ _ _ _
    (λ there. ap (λ b. ticcmd_size form + 1 + saves b + loads b) (left_index front more (ticcmd_size form) (inside there)))
    (λ _. refl)

-- nor does what it says
command_same : (form : CommandForm) (front more : List ℕ) → length front ≡ command_size form front
    → command_of form (front ++ more) ≡ command_of form front
unfolding command_of command_size
command_same form front more long =
    let enough : ticcmd_size form ≤ length front = omega (arith, long, size_at_least form front) in
    let first =
    chosen_same form.long (long_command_of (front ++ more)) (long_command_of front)
    (short_command_of (front ++ more)) (short_command_of front)
    (λ e. long_same front more (omega (arith, enough, cond-true {A = ℕ} form.long 5 4 e)))
    (λ e. short_same front more (omega (arith, enough, cond-false {A = ℕ} form.long 5 4 e))) in
    let second =
    chosen_same form.actions (Some (actions_at (front ++ more) (ticcmd_size form)))
    (Some (actions_at front (ticcmd_size form))) None None
    (λ e. ap (λ (a : Actions). Some a) (actions_same front more (ticcmd_size form) (omega (arith, long ∙ cond-true form.actions _ _ e))))
    (λ _. refl) in
    rw (first, second) refl

-- bytes that begin with a command
module _ (form : CommandForm) (front more : List ℕ) (command : LaterCommand) (is : IsCommand form front command) where
  first_size : command_size form (front ++ more) ≡ length front
  first_size =
      size_same form front more (λ there. omega (arith, is.long, size_above form front there)) ∙ sym is.long

  first_begins : begins form (front ++ more) ≡ true
  unfolding begins
  first_begins =
      and_from _ _ (le-leb _ _ (omega (arith, first_size, length-append front more)))
      (not_from_false _ (ne_eqb _ _ (λ e.
      is.unmarked (sym (left_index front more 0 (omega (arith, is.long, size_least form front))) ∙ e))))

  first_reads : command_of form (front ++ more) ≡ command
  first_reads = command_same form front more is.long ∙ is.reads

  first_left : drop (command_size form (front ++ more)) (front ++ more) ≡ more
  first_left = drop_at front more _ (sym first_size)

-- its first byte isn't the marker
begins_unmarked : (form : CommandForm) (bytes : List ℕ) → begins form bytes ≡ true → slice_index bytes 0 ≢ 128
unfolding begins
begins_unmarked form bytes some e = eqb-false _ _ (not-true _ (and_parts _ _ some).1) e

-- where no command stands, none begins
pub stops_none : (form : CommandForm) (rest : List ℕ) → begins form rest ≡ false → NoneBegins (IsCommand form) rest
stops_none form rest stops command front more same is =
    true≢false (sym (first_begins form front more command is) ∙ ap (begins form) (sym same) ∙ stops)

pub none_stops : (form : CommandForm) (rest : List ℕ) → NoneBegins (IsCommand form) rest → begins form rest ≡ false
none_stops form rest none = elim (cases_Bool (begins form rest)) [
  | inr stops ↦ stops
  | inl some ↦
      let size = command_size form rest in
      let fits : size ≤ length rest = begins_room form rest some in
      let split : take size rest ++ drop size rest ≡ rest = take-append-drop size rest in
      let long : length (take size rest) ≡ size = length-take-le size rest fits in
      let same : command_size form rest ≡ command_size form (take size rest) =
      ap (command_size form) (sym split)
      ∙ size_same form (take size rest) (drop size rest) (λ there. omega (arith, long, size_above form rest there)) in
      let first : slice_index rest 0 ≡ slice_index (take size rest) 0 =
      ap (λ t. slice_index t 0) (sym split)
      ∙ left_index (take size rest) (drop size rest) 0 (omega (arith, long, size_least form rest)) in
      absurd (none (command_of form (take size rest)) (take size rest) (drop size rest) (sym split) (record {
        long = long ∙ same;
        unmarked = λ e. begins_unmarked form rest some (first ∙ e);
        reads = refl;
      }))
]

-- commands and what is no command behind them are the most commands, and what is left
pub commands_one : (form : CommandForm) (body rest : List ℕ) (commands : List LaterCommand)
    → AreCommands form body commands → begins form rest ≡ false
    → (commands_in form (body ++ rest) ≡ commands) × (left_in form (body ++ rest) ≡ rest)
commands_one form body rest [] h stops =
    let same : body ++ rest ≡ rest = ap (λ b. b ++ rest) h in (
      ap (commands_in form) same ∙ commands_end form rest stops,
      ap (left_in form) same ∙ left_end form rest stops,
    )
commands_one form body rest (c ∷ commands) h stops =
    let whole : body ++ rest ≡ h.0 ++ (h.1 ++ rest) =
    ap (λ t. t ++ rest) h.2 ∙ append_assoc h.0 h.1 rest in
    let begun = first_begins form h.0 (h.1 ++ rest) c h.3 in
    let left = first_left form h.0 (h.1 ++ rest) c h.3 in
    let next = commands_one form h.1 rest commands h.4 stops in (
      ap (commands_in form) whole ∙ commands_more form _ begun
          ∙ ap (λ d. d ∷ commands_in form (drop (command_size form (h.0 ++ (h.1 ++ rest))) (h.0 ++ (h.1 ++ rest)))) (first_reads form h.0 (h.1 ++ rest) c h.3)
          ∙ ap (λ b. c ∷ commands_in form b) left ∙ ap (λ cs. c ∷ cs) next.0,
      ap (left_in form) whole ∙ left_more form _ begun ∙ ap (left_in form) left ∙ next.1,
    )

-- bytes are the most commands, and what is left
pub commands_joined : (n : ℕ) (form : CommandForm) (bytes : List ℕ) → length bytes ≤ n
    → (body : List ℕ) × (bytes ≡ body ++ left_in form bytes) × AreCommands form body (commands_in form bytes)
commands_joined zero form bytes h =
    let stops = none_begins form bytes h in
    ([], sym (left_end form bytes stops), subst (AreCommands form []) (sym (commands_end form bytes stops)) refl)
commands_joined (suc n) form bytes h = elim (cases_Bool (begins form bytes)) [
  | inr stops ↦
      ([], sym (left_end form bytes stops), subst (AreCommands form []) (sym (commands_end form bytes stops)) refl)
  | inl some ↦
      let size = command_size form bytes in
      let fits : size ≤ length bytes = begins_room form bytes some in
      let split : take size bytes ++ drop size bytes ≡ bytes = take-append-drop size bytes in
      let long : length (take size bytes) ≡ size = length-take-le size bytes fits in
      let same : command_size form bytes ≡ command_size form (take size bytes) =
      ap (command_size form) (sym split)
      ∙ size_same form (take size bytes) (drop size bytes) (λ there. omega (arith, long, size_above form bytes there)) in
      let first : slice_index bytes 0 ≡ slice_index (take size bytes) 0 =
      ap (λ t. slice_index t 0) (sym split)
      ∙ left_index (take size bytes) (drop size bytes) 0 (omega (arith, long, size_least form bytes)) in
      let reads : command_of form (take size bytes) ≡ command_of form bytes =
      sym (command_same form (take size bytes) (drop size bytes) (long ∙ same)) ∙ ap (command_of form) split in
      let next = commands_joined n form (drop size bytes) (fewer n form bytes some h) in
      let left : left_in form bytes ≡ left_in form (drop size bytes) = left_more form bytes some in (
        take size bytes ++ next.0,
        sym split ∙ ap (λ t. take size bytes ++ t) (next.1 ∙ ap (λ t. next.0 ++ t) (sym left))
            ∙ sym (append_assoc (take size bytes) next.0 (left_in form bytes)),
        subst (AreCommands form (take size bytes ++ next.0)) (sym (commands_more form bytes some)) (
          take size bytes,
          next.0,
          refl,
          record {
            long = long ∙ same;
            unmarked = λ e. begins_unmarked form bytes some (first ∙ e);
            reads = reads;
          },
          next.2,
        ),
      )
]

-- and what is left begins with none
pub left_stops : (n : ℕ) (form : CommandForm) (bytes : List ℕ) → length bytes ≤ n → begins form (left_in form bytes) ≡ false
left_stops zero form bytes h =
    let stops = none_begins form bytes h in ap (begins form) (left_end form bytes stops) ∙ stops
left_stops (suc n) form bytes h = elim (cases_Bool (begins form bytes)) [
  | inr stops ↦ ap (begins form) (left_end form bytes stops) ∙ stops
  | inl some ↦
      ap (begins form) (left_more form bytes some)
      ∙ left_stops n form (drop (command_size form bytes) bytes) (fewer n form bytes some h)
]

-- no command begins at the marker
pub marker_stops : (form : CommandForm) (more : List ℕ) → begins form (128 ∷ more) ≡ false
unfolding begins
marker_stops form more = and_right _ _ refl
