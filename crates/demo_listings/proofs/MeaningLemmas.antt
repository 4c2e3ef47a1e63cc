-- What the equality of meanings says.
use Rattle.std.specs.Bool.{Decides}
use Rattle.std.specs.Option.{option_eq}
use Rattle.std.specs.Ordering.{int_eq}
use Rattle.std.specs.Prelude.{◌==◌, ◌&&◌, not}
use Rattle.std.proofs.Common.{◌≡◌, ◌≢◌, ℕ, ℤ, Bool, true, false, Option, Some, None, refl, sym, ap, ◌∙◌, true≢false}
use Rattle.std.proofs.lemmas.Bool.Decides.{Decides-and, Decides-eqb, Decides-int_eq, Decides-like}
use Rattle.std.proofs.lemmas.Option.{none-some, same_Some}
use Rattle.later_demos.specs.declared.command.Actions.{Actions}
use Rattle.demo_listings.specs.declared.meaning.Meaning.{Meaning}

option_decides : {T : Type 0} (E : T → T → Bool) → ((x y : T) → Decides (E x y) (x ≡ y))
    → (a b : Option T) → Decides (option_eq E a b) (a ≡ b)
option_decides E each None None = (λ is. refl, λ same. refl)
option_decides E each None (Some y) = (λ is. absurd (true≢false (sym is)), λ same. absurd (none-some y same))
option_decides E each (Some x) None = (λ is. absurd (true≢false (sym is)), λ same. absurd (none-some x (sym same)))
option_decides E each (Some x) (Some y) = Decides-like (E x y) (λ same. ap (λ z. Some z) same) (λ same. same_Some x y same) (each x y)

abbrev slots_eq : Option ℕ → Option ℕ → Bool
slots_eq a b = option_eq (λ (x y : ℕ). x == y) a b

slots_decide : (a b : Option ℕ) → Decides (slots_eq a b) (a ≡ b)
slots_decide a b = option_decides (λ (x y : ℕ). x == y) Decides-eqb a b

abbrev actions_eq : Actions → Actions → Bool
actions_eq x y = (x.actions == y.actions) && (slots_eq x.save y.save && slots_eq x.load y.load)

same_actions : (x y : Actions) → x.actions ≡ y.actions → x.save ≡ y.save → x.load ≡ y.load → x ≡ y
same_actions x y actions save load =
    ap (λ (n : ℕ). record { actions = n; save = x.save; load = x.load }) actions
    ∙ ap (λ (s : Option ℕ). record { actions = y.actions; save = s; load = x.load }) save
    ∙ ap (λ (l : Option ℕ). record { actions = y.actions; save = y.save; load = l }) load

actions_decide : (x y : Actions) → Decides (actions_eq x y) (x ≡ y)
actions_decide x y =
    Decides-like (actions_eq x y)
    (λ all. same_actions x y all.0 all.1.0 all.1.1)
    (λ same. (ap (λ (a : Actions). a.actions) same, (ap (λ (a : Actions). a.save) same, ap (λ (a : Actions). a.load) same)))
    (Decides-and (x.actions == y.actions) (slots_eq x.save y.save && slots_eq x.load y.load) (Decides-eqb x.actions y.actions)
    (Decides-and (slots_eq x.save y.save) (slots_eq x.load y.load) (slots_decide x.save y.save) (slots_decide x.load y.load)))

abbrev pub meaning_eq : Meaning → Meaning → Bool
meaning_eq m n =
    int_eq m.forward n.forward
    && (int_eq m.side n.side && ((m.turn == n.turn) && ((m.buttons == n.buttons) && option_eq actions_eq m.actions n.actions)))

same_meanings : (m n : Meaning) → m.forward ≡ n.forward → m.side ≡ n.side → m.turn ≡ n.turn → m.buttons ≡ n.buttons → m.actions ≡ n.actions → m ≡ n
same_meanings m n forward side turn buttons actions =
    ap (λ (f : ℤ). record m { forward = f }) forward
    ∙ ap (λ (s : ℤ). record m { forward = n.forward; side = s }) side
    ∙ ap (λ (t : ℕ). record n { turn = t; buttons = m.buttons; actions = m.actions }) turn
    ∙ ap (λ (b : ℕ). record n { buttons = b; actions = m.actions }) buttons
    ∙ ap (λ (a : Option Actions). record n { actions = a }) actions

meaning_decides : (m n : Meaning) → Decides (meaning_eq m n) (m ≡ n)
meaning_decides m n =
    let actions = option_decides actions_eq actions_decide m.actions n.actions in
    let buttons = Decides-and (m.buttons == n.buttons) (option_eq actions_eq m.actions n.actions) (Decides-eqb m.buttons n.buttons) actions in
    let turn = Decides-and (m.turn == n.turn) _ (Decides-eqb m.turn n.turn) buttons in
    let side = Decides-and (int_eq m.side n.side) _ (Decides-int_eq m.side n.side) turn in
    Decides-like (meaning_eq m n)
    (λ all. same_meanings m n all.0 all.1.0 all.1.1.0 all.1.1.1.0 all.1.1.1.1)
    (λ same. (
      ap (λ (k : Meaning). k.forward) same,
      (ap (λ (k : Meaning). k.side) same, (ap (λ (k : Meaning). k.turn) same, (ap (λ (k : Meaning). k.buttons) same, ap (λ (k : Meaning). k.actions) same))),
    ))
    (Decides-and (int_eq m.forward n.forward) _ (Decides-int_eq m.forward n.forward) side)

not_true : (b : Bool) → false ≡ not b → b ≡ true
not_true true is = refl
not_true false is = absurd (true≢false (sym is))

pub meanings_differ : (m n : Meaning) → true ≡ not (meaning_eq m n) → m ≢ n
meanings_differ m n is same = true≢false (is ∙ ap not ((meaning_decides m n).1 same))

pub meanings_same : (m n : Meaning) → false ≡ not (meaning_eq m n) → m ≡ n
meanings_same m n is = (meaning_decides m n).0 (not_true (meaning_eq m n) is)
