-- The loop that marks what is reached.
use Rattle.std.proofs.Common.{◌≡◌, ℕ, zero, suc, ◌+◌, ◌<◌, ◌⊎◌, ◌↔◌, inl, inr, sym, ap, ◌∙◌, subst, List, [], ◌∷◌, ◌++◌, length, length-append, get_or, set, Option, Some, None, Bool, true, false, not, cond, IsTrue, arith}
use Rattle.std.specs.Prelude.{slice_index_or, Contains}
use Rattle.std.specs.Option.{option_map}
use Rattle.std.proofs.lemmas.Bool.{lt-ltb, ltb-true, cases_eq, false≢true}
use Rattle.std.proofs.lemmas.List.{length-set, get_or-set_same, get_or-set_other}
use Rattle.std.proofs.lemmas.List.Sums.{sum_by-set}
use Rattle.std.proofs.lemmas.List.Elements.{Contains-push, Contains-push_cases, Contains-append_left}
use Rattle.std.proofs.lemmas.Option.{cond_some}
use Rattle.map_geo.specs.declared.sides.Side.{Side}
use Rattle.map_geo.specs.declared.sides.Side.TheVariants.{Front, Back}
use Rattle.map_level.specs.Level.{Level}
use Rattle.map_tree.specs.Paths.{Place, node, ssector, LeadsIn}
use Rattle.map_tree.specs.Child.{node_count, ssector_count, has, where_there, child, root, IsReached}
use Rattle.map_tree.specs.Slots.{slot, slot_count, child_slot, root_slot}
use Rattle.map_tree.specs.Marks.{IsMarked, unmarked, IsMarking, AreMarking, AreReached}
use Rattle.map_tree.proofs.ChainLemmas.{leads_more}
use Rattle.map_tree.proofs.SoundLemmas.{parent_in, child_there}
use Rattle.map_tree.proofs.ReachLemmas.{none_or_some}
use Rattle.map_tree.proofs.SlotLemmas.{slot_within, slot_once, child_slot_of, child_at_slot, root_there_with, root_slot_of}

-- one mark more
set_marked : (marks : List Bool) (k : ℕ) → k < length marks → IsMarked (set marks k true) k
set_marked marks k within =
    (rw (length-set marks k true) within, get_or-set_same marks k true false within)

set_cases : (marks : List Bool) (k j : ℕ) → IsMarked (set marks k true) j
    → (k ≡ j) ⊎ IsMarked marks j
set_cases marks k j h = elim (cases_eq j k) [
  | inl same ↦ inl (sym same)
  | inr other ↦
      inr
      (rw (length-set marks k true) at h.0, sym (get_or-set_other marks k j true false other) ∙ h.1)
]

set_kept : (marks : List Bool) (k j : ℕ) → k < length marks → IsMarked marks j
    → IsMarked (set marks k true) j
set_kept marks k j within h = elim (cases_eq j k) [
  | inl same ↦ subst (λ i. IsMarked (set marks k true) i) (sym same) (set_marked marks k within)
  | inr other ↦
      (rw (length-set marks k true) h.0, get_or-set_other marks k j true false other ∙ h.1)
]

abbrev off_one : Bool → ℕ
off_one b = cond (not b) 1 0

fewer : (marks : List Bool) (k : ℕ) → k < length marks → slice_index_or marks k false ≡ false
    → unmarked (set marks k true) + 1 ≡ unmarked marks
fewer marks k within off =
    let e = sum_by-set off_one marks k true false within in
    let one : off_one (get_or marks k false) ≡ 1 = ap off_one off in
    omega (arith, e, one)

pub marking_new : (marks : List Bool) (k : ℕ) (waits after : List ℕ) → k < length marks
    → slice_index_or marks k false ≡ false → after ≡ waits ++ k ∷ []
    → IsMarking (Some k) marks (set marks k true) waits after
marking_new marks k waits after within off more = record {
  long = length-set marks k true;
  marked =
      λ j e. let same : k ≡ j = cc in
      subst (λ i. IsMarked (set marks k true) i) same (set_marked marks k within);
  kept = λ j h. set_kept marks k j within h;
  only = λ j h. elim (set_cases marks k j h) [ inl same ↦ inl (ap Some same) | inr old ↦ inr old ];
  waits = λ j h. elim (set_cases marks k j h) [
    | inl same ↦ inr (rw (more, ← same) (Contains-push waits k))
    | inr old ↦ inl old
  ];
  still = λ j h. rw more (Contains-append_left waits (k ∷ []) j h);
  added =
      λ j h. elim (Contains-push_cases waits k j (rw more at h)) [
        | inl old ↦ inr old
        | inr same ↦ inl (ap Some same)
      ];
  same =
      let e =
      ap length more in omega
      (arith, fewer marks k within off, e, length-append waits (k ∷ []));
}

-- what a mark tells
marked_tells : (level : Level) (marks : List Bool) (p : Place) → AreReached level marks
    → IsTrue (has level p)
    → IsTrue (slice_index_or marks (slot level p) false) ↔ IsReached level p
marked_tells level marks p are there = (
  (λ on. (are.exact p there).0 (rw are.long (slot_within level p there), on)),
  (λ up. ((are.exact p there).1 up).1),
)

pub node_marked : (level : Level) (marks : List Bool) (n : ℕ) → AreReached level marks
    → n < node_count level
    → IsTrue (slice_index_or marks n false) ↔ IsReached level (node n)
node_marked level marks n are within =
    marked_tells level marks (node n) are (lt-ltb n (node_count level) within)

pub ssector_marked : (level : Level) (marks : List Bool) (t : ℕ) → AreReached level marks
    → t < ssector_count level
    → IsTrue (slice_index_or marks (node_count level + t) false) ↔ IsReached level (ssector t)
ssector_marked level marks t are within =
    marked_tells level marks (ssector t) are (lt-ltb t (ssector_count level) within)

-- the children of a node that are there are marked
abbrev pub AreChildrenMarked : Level → List Bool → ℕ → Type 0
AreChildrenMarked level marks n =
    (s : Side) (k : ℕ) → child_slot level n s ≡ Some k → IsMarked marks k

-- what is marked is reached, and its children are marked unless it waits, or is the one in hand
pub record Visiting (level : Level) (marks : List Bool) (waits : List ℕ)
    (InHand : ℕ → Type 0) : Type 0 where
  pub long : length marks ≡ slot_count level
  pub led : (p : Place) → IsTrue (has level p) → IsMarked marks (slot level p) → IsReached level p
  pub begun : (k : ℕ) → root_slot level ≡ Some k → IsMarked marks k
  pub waiting : (k : ℕ) → Contains waits k → IsMarked marks k
  pub closed : (n : ℕ) → n < node_count level → IsMarked marks n
      → Contains waits n ⊎ (InHand n ⊎ AreChildrenMarked level marks n)

-- none is in hand
abbrev pub NoneInHand : ℕ → Type 0
NoneInHand n = ⊥

root_at_slot : (level : Level) (k : ℕ) → root_slot level ≡ Some k
    → IsTrue (has level (root level)) × (slot level (root level) ≡ k)
root_at_slot level k e =
    elim (none_or_some (where_there level (root level))) [
      | inl none ↦
          let f : None ≡ Some k =
          sym (ap (λ (o : Option Place). option_map (slot level) o) none) ∙ e in
          cc
      | inr some ↦
          let told = cond_some (has level (root level)) (root level) some.0 some.1 in
          let f : Some (slot level some.0) ≡ Some k =
          sym (ap (λ (o : Option Place). option_map (slot level) o) some.1) ∙ e in
          let at : slot level some.0 ≡ k = cc in
          (told.0, ap (slot level) told.1 ∙ at)
    ]

-- a child of the one in hand is marked
pub visit_child : (level : Level) (n : ℕ) (s : Side) (before after : List Bool)
    (waits_before waits_after : List ℕ)
    → IsMarked before n
    → Visiting level before waits_before (λ m. m ≡ n)
    → IsMarking (child_slot level n s) before after waits_before waits_after
    → Visiting level after waits_after (λ m. m ≡ n)
visit_child level n s before after waits_before waits_after here visiting marking = record {
  long = marking.long ∙ visiting.long;
  led = λ p there marked. elim (marking.only (slot level p) marked) [
    | inr old ↦ visiting.led p there old
    | inl new ↦
        let r = child_at_slot level n s (slot level p) new in
        let within = parent_in level n s r.0 r.1 in
        let up = visiting.led (node n) (lt-ltb n (node_count level) within) here in
        let is = slot_once level r.0 p (child_there level n s r.0 r.1) there r.2 in
        (suc up.0, leads_more (child level) up.0 (root level) p n s up.1 (r.1 ∙ ap Some is))
  ];
  begun = λ k e. marking.kept k (visiting.begun k e);
  waiting =
      λ k h. elim (marking.added k h) [
        | inl new ↦ marking.marked k new
        | inr old ↦ marking.kept k (visiting.waiting k old)
      ];
  closed = λ m within marked. elim (marking.waits m marked) [
    | inr waits ↦ inl waits
    | inl old ↦ elim (visiting.closed m within old) [
      | inl waits ↦ inl (marking.still m waits)
      | inr more ↦ elim more [
        | inl in_hand ↦ inr (inl in_hand)
        | inr all ↦ inr (inr (λ u k e. marking.kept k (all u k e)))
      ]
    ]
  ];
}

-- both children of the one in hand are marked
both_marked : (level : Level) (n : ℕ) (before between after : List Bool)
    (waits_before waits_between waits_after : List ℕ)
    → IsMarking (child_slot level n Front) before between waits_before waits_between
    → IsMarking (child_slot level n Back) between after waits_between waits_after
    → AreChildrenMarked level after n
both_marked level n before between after waits_before waits_between waits_after front back Front k
    e =
    back.kept k (front.marked k e)
both_marked level n before between after waits_before waits_between waits_after front back Back k
    e =
    back.marked k e

pub both_marking : (front back : Option ℕ) (before between after : List Bool)
    (waits_before waits_between waits_after : List ℕ)
    → IsMarking front before between waits_before waits_between
    → IsMarking back between after waits_between waits_after
    → AreMarking front back before after waits_before waits_after
both_marking front back before between after waits_before waits_between waits_after first second =
    record {
      between = between;
      waits_between = waits_between;
      first = first;
      second = second;
    }

pub visit : (level : Level) (n : ℕ) (before after : List Bool) (waits rest waits_after : List ℕ)
    → waits ≡ rest ++ n ∷ []
    → Visiting level before waits NoneInHand
    → AreMarking (child_slot level n Front) (child_slot level n Back) before after rest waits_after
    → Visiting level after waits_after NoneInHand
visit level n before after waits rest waits_after popped visiting both =
    let between = both.between in
    let waits_between = both.waits_between in
    let front = both.first in
    let back = both.second in
    let here : IsMarked before n = visiting.waiting n (rw popped (Contains-push rest n)) in
    let start : Visiting level before rest (λ m. m ≡ n) = record {
      long = visiting.long;
      led = visiting.led;
      begun = visiting.begun;
      waiting = λ k h. visiting.waiting k (rw popped (Contains-append_left rest (n ∷ []) k h));
      closed = λ m within marked. elim (visiting.closed m within marked) [
        | inl waits ↦
            elim (Contains-push_cases rest n m (rw popped at waits)) [
              | inl old ↦ inl old
              | inr same ↦ inr (inl (sym same))
            ]
        | inr more ↦ elim more [ inl none ↦ absurd none | inr all ↦ inr (inr all) ]
      ];
    } in
    let one = visit_child level n Front before between rest waits_between here start front in
    let two =
    visit_child level n Back between after waits_between waits_after
    (front.kept n here) one back in
    record {
      long = two.long;
      led = two.led;
      begun = two.begun;
      waiting = two.waiting;
      closed = λ m within marked. elim (two.closed m within marked) [
        | inl waits ↦ inl waits
        | inr more ↦ elim more [
          | inl in_hand ↦
              inr (inr (subst (λ x. AreChildrenMarked level after x) (sym in_hand)
              (both_marked level n before between after rest waits_between waits_after front back)))
          | inr all ↦ inr (inr all)
        ]
      ];
    }

-- the root alone is marked
pub visit_start : (level : Level) (before after : List Bool) (waits : List ℕ)
    → length before ≡ slot_count level → ((k : ℕ) → slice_index_or before k false ≡ false)
    → IsMarking (root_slot level) before after [] waits → Visiting level after waits NoneInHand
visit_start level before after waits long off marking = record {
  long = marking.long ∙ long;
  led = λ p there marked. elim (marking.only (slot level p) marked) [
    | inr old ↦ absurd (false≢true (sym (off (slot level p)) ∙ old.1))
    | inl new ↦
        let r = root_at_slot level (slot level p) new in
        (0, slot_once level (root level) p r.0 there r.1)
  ];
  begun = λ k e. marking.marked k e;
  waiting =
      λ k h. elim (marking.added k h) [
        | inl new ↦ marking.marked k new
        | inr old ↦ absurd (omega (arith, old.1))
      ];
  closed = λ m within marked. elim (marking.waits m marked) [
    | inr waits ↦ inl waits
    | inl old ↦ absurd (false≢true (sym (off m) ∙ old.1))
  ];
}

-- where none waits all that is reached is marked
led_marked : (level : Level) (marks : List Bool) → Visiting level marks [] NoneInHand
    → (k : ℕ) (from p : Place)
    → IsTrue (has level from) → IsMarked marks (slot level from) → LeadsIn (child level) k from p
    → IsMarked marks (slot level p)
led_marked level marks visiting zero from p there marked h =
    subst (λ x. IsMarked marks (slot level x)) h marked
led_marked level marks visiting (suc k) (ssector t) p there marked h = elim h [ ]
led_marked level marks visiting (suc k) (node n) p there marked h =
    elim (visiting.closed n (ltb-true n (node_count level) there) marked) [
      | inl waits ↦ absurd (omega (arith, waits.1))
      | inr more ↦ elim more [
        | inl none ↦ absurd none
        | inr all ↦
            led_marked level marks visiting k h.1 p (child_there level n h.0 h.1 h.2)
            (all h.0 (slot level h.1) (child_slot_of level n h.0 h.1 h.2)) h.3
      ]
    ]

pub visit_end : (level : Level) (marks : List Bool) (waits : List ℕ) → length waits ≡ 0
    → Visiting level marks waits NoneInHand → AreReached level marks
visit_end level marks (k ∷ waits) none visiting = absurd (omega arith)
visit_end level marks [] none visiting = record {
  long = visiting.long;
  exact = λ p there. (
    visiting.led p there,
    (λ up.
        let root_there = root_there_with level p there in
        led_marked level marks visiting up.0 (root level) p root_there
        (visiting.begun (slot level (root level)) (root_slot_of level root_there)) up.1),
  );
}

pub visit_smaller : (n : ℕ) (before after : List Bool) (waits rest waits_after : List ℕ)
    (front back : Option ℕ)
    → waits ≡ rest ++ n ∷ []
    → AreMarking front back before after rest waits_after
    → length waits_after + unmarked after < length waits + unmarked before
visit_smaller n before after waits rest waits_after front back popped both =
    let e = ap length popped in
    omega (arith, e, length-append rest (n ∷ []), both.first.same, both.second.same)
