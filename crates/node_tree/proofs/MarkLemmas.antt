-- The loop that marks what is reached.
use Rattle.std.proofs.Common.{◌≡◌, ℕ, zero, suc, ◌+◌, ◌<◌, ◌⊎◌, ◌↔◌, inl, inr, sym, ap, ◌∙◌, subst, List, [], ◌∷◌, ◌++◌, length, Option, Some, None, Bool, true, false, IsTrue, arith}
use Rattle.std.specs.Prelude.{slice_index_or, Contains}
use Rattle.std.specs.Option.{option_map}
use Rattle.std.proofs.lemmas.Bool.{lt-ltb, ltb-true, false≢true}
use Rattle.std.proofs.lemmas.List.Elements.{Contains-push, Contains-push_cases, Contains-append_left}
use Rattle.std.proofs.lemmas.Option.{cond_some}
use Rattle.map_geo.specs.declared.sides.Side.{Side}
use Rattle.map_geo.specs.declared.sides.Side.TheVariants.{Front, Back}
use Rattle.node_tree.specs.Shape.{Shape}
use Rattle.map_tree.specs.Paths.{Place, node, ssector, LeadsIn}
use Rattle.node_tree.specs.Shape.{node_count, ssector_count, has, where_there, child, root, IsReached}
use Rattle.node_tree.specs.Slots.{slot, slot_count, child_slot, root_slot}
use Rattle.map_tree.specs.Marks.{IsMarked, IsMarking, AreMarking}
use Rattle.node_tree.specs.Marks.{AreReached}
use Rattle.map_tree.proofs.ChainLemmas.{leads_more}
use Rattle.node_tree.proofs.SoundLemmas.{parent_in, child_there}
use Rattle.map_tree.proofs.ReachLemmas.{none_or_some}
use Rattle.node_tree.proofs.SlotLemmas.{slot_within, slot_once, child_slot_of, child_at_slot, root_there_with, root_slot_of}

-- what a mark tells
marked_tells : (shape : Shape) (marks : List Bool) (p : Place) → AreReached shape marks
    → IsTrue (has shape p)
    → IsTrue (slice_index_or marks (slot shape p) false) ↔ IsReached shape p
marked_tells shape marks p are there = (
  (λ on. (are.exact p there).0 (rw are.long (slot_within shape p there), on)),
  (λ up. ((are.exact p there).1 up).1),
)

pub node_marked : (shape : Shape) (marks : List Bool) (n : ℕ) → AreReached shape marks
    → n < node_count shape
    → IsTrue (slice_index_or marks n false) ↔ IsReached shape (node n)
node_marked shape marks n are within =
    marked_tells shape marks (node n) are (lt-ltb n (node_count shape) within)

pub ssector_marked : (shape : Shape) (marks : List Bool) (t : ℕ) → AreReached shape marks
    → t < ssector_count shape
    → IsTrue (slice_index_or marks (node_count shape + t) false) ↔ IsReached shape (ssector t)
ssector_marked shape marks t are within =
    marked_tells shape marks (ssector t) are (lt-ltb t (ssector_count shape) within)

-- the children of a node that are there are marked
abbrev pub AreChildrenMarked : Shape → List Bool → ℕ → Type 0
AreChildrenMarked shape marks n =
    (s : Side) (k : ℕ) → child_slot shape n s ≡ Some k → IsMarked marks k

-- what is marked is reached, and its children are marked unless it waits, or is the one in hand
pub record Visiting (shape : Shape) (marks : List Bool) (waits : List ℕ)
    (InHand : ℕ → Type 0) : Type 0 where
  pub long : length marks ≡ slot_count shape
  pub led : (p : Place) → IsTrue (has shape p) → IsMarked marks (slot shape p) → IsReached shape p
  pub begun : (k : ℕ) → root_slot shape ≡ Some k → IsMarked marks k
  pub waiting : (k : ℕ) → Contains waits k → IsMarked marks k
  pub closed : (n : ℕ) → n < node_count shape → IsMarked marks n
      → Contains waits n ⊎ (InHand n ⊎ AreChildrenMarked shape marks n)

-- none is in hand
abbrev pub NoneInHand : ℕ → Type 0
NoneInHand n = ⊥

root_at_slot : (shape : Shape) (k : ℕ) → root_slot shape ≡ Some k
    → IsTrue (has shape (root shape)) × (slot shape (root shape) ≡ k)
root_at_slot shape k e =
    elim (none_or_some (where_there shape (root shape))) [
      | inl none ↦
          let f : None ≡ Some k =
          sym (ap (λ (o : Option Place). option_map (slot shape) o) none) ∙ e in
          cc
      | inr some ↦
          let told = cond_some (has shape (root shape)) (root shape) some.0 some.1 in
          let f : Some (slot shape some.0) ≡ Some k =
          sym (ap (λ (o : Option Place). option_map (slot shape) o) some.1) ∙ e in
          let at : slot shape some.0 ≡ k = cc in
          (told.0, ap (slot shape) told.1 ∙ at)
    ]

-- a child of the one in hand is marked
pub visit_child : (shape : Shape) (n : ℕ) (s : Side) (before after : List Bool)
    (waits_before waits_after : List ℕ)
    → IsMarked before n
    → Visiting shape before waits_before (λ m. m ≡ n)
    → IsMarking (child_slot shape n s) before after waits_before waits_after
    → Visiting shape after waits_after (λ m. m ≡ n)
visit_child shape n s before after waits_before waits_after here visiting marking = record {
  long = marking.long ∙ visiting.long;
  led = λ p there marked. elim (marking.only (slot shape p) marked) [
    | inr old ↦ visiting.led p there old
    | inl new ↦
        let r = child_at_slot shape n s (slot shape p) new in
        let within = parent_in shape n s r.0 r.1 in
        let up = visiting.led (node n) (lt-ltb n (node_count shape) within) here in
        let is = slot_once shape r.0 p (child_there shape n s r.0 r.1) there r.2 in
        (suc up.0, leads_more (child shape) up.0 (root shape) p n s up.1 (r.1 ∙ ap Some is))
  ];
  begun = λ k e. marking.kept k (visiting.begun k e);
  waiting =
      λ k h. elim (marking.added k h) [
        | inl new ↦ marking.marked k new
        | inr old ↦ marking.kept k (visiting.waiting k old)
      ];
  closed = λ m within marked. elim (marking.waits m marked) [
    | inr waits ↦ inl waits
    | inl old ↦ elim (visiting.closed m within old) [
      | inl waits ↦ inl (marking.still m waits)
      | inr more ↦ elim more [
        | inl in_hand ↦ inr (inl in_hand)
        | inr all ↦ inr (inr (λ u k e. marking.kept k (all u k e)))
      ]
    ]
  ];
}

-- both children of the one in hand are marked
both_marked : (shape : Shape) (n : ℕ) (before between after : List Bool)
    (waits_before waits_between waits_after : List ℕ)
    → IsMarking (child_slot shape n Front) before between waits_before waits_between
    → IsMarking (child_slot shape n Back) between after waits_between waits_after
    → AreChildrenMarked shape after n
both_marked shape n before between after waits_before waits_between waits_after front back Front k
    e =
    back.kept k (front.marked k e)
both_marked shape n before between after waits_before waits_between waits_after front back Back k
    e =
    back.marked k e

pub visit : (shape : Shape) (n : ℕ) (before after : List Bool) (waits rest waits_after : List ℕ)
    → waits ≡ rest ++ n ∷ []
    → Visiting shape before waits NoneInHand
    → AreMarking (child_slot shape n Front) (child_slot shape n Back) before after rest waits_after
    → Visiting shape after waits_after NoneInHand
visit shape n before after waits rest waits_after popped visiting both =
    let between = both.between in
    let waits_between = both.waits_between in
    let front = both.first in
    let back = both.second in
    let here : IsMarked before n = visiting.waiting n (rw popped (Contains-push rest n)) in
    let start : Visiting shape before rest (λ m. m ≡ n) = record {
      long = visiting.long;
      led = visiting.led;
      begun = visiting.begun;
      waiting = λ k h. visiting.waiting k (rw popped (Contains-append_left rest (n ∷ []) k h));
      closed = λ m within marked. elim (visiting.closed m within marked) [
        | inl waits ↦
            elim (Contains-push_cases rest n m (rw popped at waits)) [
              | inl old ↦ inl old
              | inr same ↦ inr (inl (sym same))
            ]
        | inr more ↦ elim more [ inl none ↦ absurd none | inr all ↦ inr (inr all) ]
      ];
    } in
    let one = visit_child shape n Front before between rest waits_between here start front in
    let two =
    visit_child shape n Back between after waits_between waits_after
    (front.kept n here) one back in
    record {
      long = two.long;
      led = two.led;
      begun = two.begun;
      waiting = two.waiting;
      closed = λ m within marked. elim (two.closed m within marked) [
        | inl waits ↦ inl waits
        | inr more ↦ elim more [
          | inl in_hand ↦
              inr (inr (subst (λ x. AreChildrenMarked shape after x) (sym in_hand)
              (both_marked shape n before between after rest waits_between waits_after front back)))
          | inr all ↦ inr (inr all)
        ]
      ];
    }

-- the root alone is marked
pub visit_start : (shape : Shape) (before after : List Bool) (waits : List ℕ)
    → length before ≡ slot_count shape → ((k : ℕ) → slice_index_or before k false ≡ false)
    → IsMarking (root_slot shape) before after [] waits → Visiting shape after waits NoneInHand
visit_start shape before after waits long off marking = record {
  long = marking.long ∙ long;
  led = λ p there marked. elim (marking.only (slot shape p) marked) [
    | inr old ↦ absurd (false≢true (sym (off (slot shape p)) ∙ old.1))
    | inl new ↦
        let r = root_at_slot shape (slot shape p) new in
        (0, slot_once shape (root shape) p r.0 there r.1)
  ];
  begun = λ k e. marking.marked k e;
  waiting =
      λ k h. elim (marking.added k h) [
        | inl new ↦ marking.marked k new
        | inr old ↦ absurd (omega (arith, old.1))
      ];
  closed = λ m within marked. elim (marking.waits m marked) [
    | inr waits ↦ inl waits
    | inl old ↦ absurd (false≢true (sym (off m) ∙ old.1))
  ];
}

-- where none waits all that is reached is marked
led_marked : (shape : Shape) (marks : List Bool) → Visiting shape marks [] NoneInHand
    → (k : ℕ) (from p : Place)
    → IsTrue (has shape from) → IsMarked marks (slot shape from) → LeadsIn (child shape) k from p
    → IsMarked marks (slot shape p)
led_marked shape marks visiting zero from p there marked h =
    subst (λ x. IsMarked marks (slot shape x)) h marked
led_marked shape marks visiting (suc k) (ssector t) p there marked h = elim h [ ]
led_marked shape marks visiting (suc k) (node n) p there marked h =
    elim (visiting.closed n (ltb-true n (node_count shape) there) marked) [
      | inl waits ↦ absurd (omega (arith, waits.1))
      | inr more ↦ elim more [
        | inl none ↦ absurd none
        | inr all ↦
            led_marked shape marks visiting k h.1 p (child_there shape n h.0 h.1 h.2)
            (all h.0 (slot shape h.1) (child_slot_of shape n h.0 h.1 h.2)) h.3
      ]
    ]

pub visit_end : (shape : Shape) (marks : List Bool) (waits : List ℕ) → length waits ≡ 0
    → Visiting shape marks waits NoneInHand → AreReached shape marks
visit_end shape marks (k ∷ waits) none visiting = absurd (omega arith)
visit_end shape marks [] none visiting = record {
  long = visiting.long;
  exact = λ p there. (
    visiting.led p there,
    (λ up.
        let root_there = root_there_with shape p there in
        led_marked shape marks visiting up.0 (root shape) p root_there
        (visiting.begun (slot shape (root shape)) (root_slot_of shape root_there)) up.1),
  );
}
