-- The most commands that bytes begin with.
use Rattle.std.proofs.Common.{◌≡◌, ◌≢◌, ℕ, zero, suc, ◌≤◌, ◌<◌, List, [], ◌∷◌, ◌++◌, length, take, drop, slice_index, inl, inr, ◌⊎◌, refl, sym, ap, ◌∙◌, arith, length-append}
use Rattle.std.proofs.lemmas.Bool.{cases_lt, cases_order}
use Rattle.std.proofs.lemmas.List.{append_assoc, take-append-drop, length-take-le}
use Rattle.demo_lump.specs.Command.{IsCommand, command_of, command_size}
use Rattle.demo_lump.specs.Demo.{AreCommands}
use Rattle.demo_lump.specs.Pieces.{NoneBegins}
use Rattle.demo_lump.specs.declared.command.Command.{Command}
use Rattle.demo_lump.proofs.CommandLemmas.{short_stops, marked_stops}
use Rattle.demo_lump.proofs.ReadingLemmas.{command_size-some, first-append}

cases_eq : (a b : ℕ) → (a ≡ b) ⊎ (a ≢ b)
cases_eq a b = elim (cases_order a b) [
  | inl same ↦ inl same
  | inr other ↦ inr (λ e. elim other [ inl less ↦ omega (arith, less, e) | inr more ↦ omega (arith, more, e) ])
]

next_command : (version : ℕ) (bytes : List ℕ) → NoneBegins (IsCommand version) bytes ⊎ ((c : Command) × (front : List ℕ) × (rest : List ℕ) × (bytes ≡ front ++ rest) × IsCommand version front c)
next_command version bytes = elim (cases_lt (length bytes) (command_size version)) [
  | inl short ↦ inl (short_stops version bytes short)
  | inr fits ↦ elim (cases_eq (slice_index bytes 0) 128) [
    | inl marked ↦ inl (marked_stops version bytes marked)
    | inr unmarked ↦
        let size = command_size version in
        let split : take size bytes ++ drop size bytes ≡ bytes = take-append-drop size bytes in
        let long : length (take size bytes) ≡ size = length-take-le size bytes fits in
        let some : 0 < length (take size bytes) = omega (arith, long, (command_size-some version).0) in
        let first : slice_index bytes 0 ≡ slice_index (take size bytes) 0 = ap (λ t. slice_index t 0) (sym split) ∙ first-append (take size bytes) (drop size bytes) some in
        inr (command_of version (take size bytes), take size bytes, drop size bytes, sym split, record { long = long; unmarked = λ e. unmarked (first ∙ e); reads = refl })
  ]
]

pub record Most (version : ℕ) (bytes : List ℕ) : Type 0 where
  pub commands : List Command
  pub body : List ℕ
  pub rest : List ℕ
  pub joined : bytes ≡ body ++ rest
  pub follow : AreCommands version body commands
  pub most : NoneBegins (IsCommand version) rest

most_from : (version fuel : ℕ) (bytes : List ℕ) → length bytes ≤ fuel → Most version bytes
most_from version zero bytes h = record {
  commands = [];
  body = [];
  rest = bytes;
  joined = refl;
  follow = refl;
  most = short_stops version bytes (omega (arith, (command_size-some version).0));
}
most_from version (suc fuel) bytes h = elim (next_command version bytes) [
  | inl none ↦ record { commands = []; body = []; rest = bytes; joined = refl; follow = refl; most = none }
  | inr (c, front, rest, split, is) ↦
      let next = most_from version fuel rest (omega (arith, ap length split, length-append front rest, is.long, (command_size-some version).0)) in
      record {
        commands = c ∷ next.commands;
        body = front ++ next.body;
        rest = next.rest;
        joined = split ∙ ap (λ t. front ++ t) next.joined ∙ sym (append_assoc front next.body next.rest);
        follow = (front, next.body, refl, is, next.follow);
        most = next.most;
      }
]

pub most_commands : (version : ℕ) (bytes : List ℕ) → Most version bytes
most_commands version bytes = most_from version (length bytes) bytes (omega arith)

pub AreCommands-append : (version : ℕ) (body more : List ℕ) (commands others : List Command) → AreCommands version body commands → AreCommands version more others → AreCommands version (body ++ more) (commands ++ others)
AreCommands-append version body more [] others h k = rw h k
AreCommands-append version body more (c ∷ commands) others h k =
    (h.0, h.1 ++ more, ap (λ t. t ++ more) h.2 ∙ append_assoc h.0 h.1 more, h.3, AreCommands-append version h.1 more commands others h.4 k)

pub marker_or_not : (bytes : List ℕ) → ((more : List ℕ) × (bytes ≡ 128 ∷ more)) ⊎ ((more : List ℕ) → bytes ≢ 128 ∷ more)
marker_or_not [] = inr (λ more e. cc)
marker_or_not (b ∷ bytes) = elim (cases_eq b 128) [
  | inl is ↦ inl (bytes, ap (λ x. x ∷ bytes) is)
  | inr other ↦ inr (λ more e. other (ap (λ t. slice_index t 0) e))
]
