-- The ssector that the released game finds is the leaf.
use Rattle.std.proofs.Common.{◌≡◌, ℕ, zero, suc, ◌+◌, ◌-◌, ◌<◌, ◌≤◌, Option, Some, None, inl, inr, refl, sym, ap, subst, ◌∙◌, arith, List, length}
use Rattle.std.proofs.lemmas.Bool.{cases_lt}
use Rattle.std.proofs.lemmas.Bool.Decides.{nat_tests}
use Rattle.std.specs.List.{slice_get}
use Rattle.std.specs.Prelude.{IsSomeAnd}
use Rattle.le_rec.specs.declared.records.Node.{Node}
use Rattle.map_geo.specs.Partition.{partition_of}
use Rattle.map_geo.specs.Point.{Point, IsInRange}
use Rattle.map_geo.specs.Side.{side_of}
use Rattle.map_level.specs.Level.{Level}
use Rattle.map_tree.specs.Child.{node_count, place_of, root_of, word_at}
use Rattle.map_tree.specs.Leaf.{IsLeaf}
use Rattle.map_tree.specs.Paths.{node, ssector}
use Rattle.map_tree.specs.Sound.{IsSound}
use Rattle.map_tree.proofs.DescentLemmas.{IsAt, place_below, at_start, at_deep, at_origin, at_next, at_leaf}
use Rattle.map_tree.proofs.LeafLemmas.{one_leaf}
use Rattle.map_tree.proofs.SoundLemmas.{few_nodes}
use Rattle.released.specs.Laws.{ReleasedIsLeaf}
use Rattle.released.specs.PointInSubsector.{Finds, at_ssector, at_node, first_word, FindsSsector}
use Rattle.released.specs.PointOnSide.{fixed, fixed_node, released_side}
use Rattle.released.proofs.FileLemmas.{HaveSteps, level_has_steps}
use Rattle.released.proofs.SideLemmas.{released_is_side, range_is_within_reach}

place_past : (word t : ℕ) → 32768 ≤ word → t ≡ word - 32768 → place_of word ≡ ssector t
place_past word t h e = grind (arith, nat_tests)

first_place : (n : ℕ) → n ≤ 32767 → place_of (first_word n) ≡ root_of n
first_place zero few = refl
first_place (suc n) few = place_below n (omega arith)

some_of : (o : Option Node) (P : Node → Type 0) → IsSomeAnd o P
    → (found : Node) × (o ≡ Some found)
some_of None P h = elim h [ ]
some_of (Some found) P h = (found, refl)

module _ (level : Level) (point : Point) (sound : IsSound level)
    (steps : HaveSteps level.nodes.records) (x_in : IsInRange point.x)
    (y_in : IsInRange point.y) where
  abbrev next_word : Node → ℕ
  next_word found = word_at found (released_side (fixed point.x) (fixed point.y) (fixed_node found))

  next_at : (word tests : ℕ) (found : Node) → word < 32768 → IsAt level point word tests
      → slice_get level.nodes.records word ≡ Some found
      → IsAt level point (next_word found) (tests + 1)
  next_at word tests found below at e =
      let origin : IsInRange found.x × IsInRange found.y =
      subst (λ o. IsSomeAnd o (λ found. IsInRange found.x × IsInRange found.y)) e
      (at_origin level point word tests below at) in
      let step = steps word found e in
      let near = range_is_within_reach found point origin.0 origin.1 step.0 step.1 x_in y_in in
      let same : next_word found ≡ word_at found (side_of (partition_of found) point) =
      ap (word_at found) (released_is_side found point near) in
      at_next level point word (next_word found) tests level.nodes below at refl
      (subst (λ o. IsSomeAnd o (λ found'. next_word found ≡ word_at found' (side_of (partition_of found') point)))
      (sym e) same)

  found_is_leaf : (word t tests : ℕ)
      → Finds level.nodes.records (fixed point.x) (fixed point.y) word t
      → IsAt level point word tests → IsLeaf level point t
  found_is_leaf word t tests (at_ssector _ _ past e) at =
      at_leaf level point word tests t (place_past word t past e) at
  found_is_leaf word t tests (at_node _ _ found below e next) at =
      found_is_leaf (next_word found) t (tests + 1) next (next_at word tests found below at e)

  something_found : (turns word tests : ℕ) → node_count level ≤ tests + turns
      → IsAt level point word tests
      → (t : ℕ) × Finds level.nodes.records (fixed point.x) (fixed point.y) word t
  something_found zero word tests enough at = elim (cases_lt word 32768) [
    | inl below ↦ absurd (omega (arith, at_deep level point word tests below at))
    | inr past ↦ (word - 32768, at_ssector word (word - 32768) past refl)
  ]
  something_found (suc turns) word tests enough at = elim (cases_lt word 32768) [
    | inl below ↦
        let some = some_of (slice_get level.nodes.records word) _ (at_origin level point word tests below at) in
        let rest =
        something_found turns (next_word some.0) (tests + 1) (omega arith)
        (next_at word tests some.0 below at some.1) in
        (rest.0, at_node word rest.0 some.0 below some.1 rest.1)
    | inr past ↦ (word - 32768, at_ssector word (word - 32768) past refl)
  ]

  start : IsAt level point (first_word (node_count level)) 0
  start = at_start level point (first_word (node_count level)) sound
      (first_place (node_count level) (few_nodes level sound))

  to_leaf : (t : ℕ) → FindsSsector level.nodes.records point t → IsLeaf level point t
  to_leaf t finds = found_is_leaf (first_word (node_count level)) t 0 finds start

  from_leaf : (t : ℕ) → IsLeaf level point t → FindsSsector level.nodes.records point t
  from_leaf t leaf =
      let some = something_found (node_count level) (first_word (node_count level)) 0 (omega arith) start in
      subst (λ u. FindsSsector level.nodes.records point u)
      (one_leaf level point some.0 t (to_leaf some.0 some.1) leaf) some.1

pub released_is_leaf : ReleasedIsLeaf
released_is_leaf files label reading level point t are at sound x_in y_in =
    let steps = level_has_steps files label reading level are at in
    (to_leaf level point sound steps x_in y_in t, from_leaf level point sound steps x_in y_in t)

-- ---- the loop of the code

-- the word that names the root is the one at which the routine begins
word_of_place : (n word : ℕ) → place_of word ≡ root_of n → word ≡ first_word n
word_of_place zero word e = elim (cases_lt word 32768) [
  | inl below ↦ let both : node word ≡ ssector 0 = sym (place_below word below) ∙ e in cc
  | inr past ↦
      let both : ssector (word - 32768) ≡ ssector 0 = sym (place_past word (word - 32768) past refl) ∙ e in
      let none : word - 32768 ≡ 0 = cc in
      omega (arith, none, past)
]
word_of_place (suc n) word e = elim (cases_lt word 32768) [
  | inl below ↦ let both : node word ≡ node n = sym (place_below word below) ∙ e in cc
  | inr past ↦
      let both : ssector (word - 32768) ≡ node n = sym (place_past word (word - 32768) past refl) ∙ e in cc
]

-- what is found from the word is what the routine finds
abbrev pub FindsFrom : List Node → Point → ℕ → Type 0
FindsFrom nodes point word =
    (t : ℕ) → Finds nodes (fixed point.x) (fixed point.y) word t → FindsSsector nodes point t

pub finds_from_root : (nodes : List Node) (point : Point) (word : ℕ)
    → place_of word ≡ root_of (length nodes) → FindsFrom nodes point word
finds_from_root nodes point word e t finds =
    subst (λ w. Finds nodes (fixed point.x) (fixed point.y) w t) (word_of_place (length nodes) word e) finds

finds_from_node : (nodes : List Node) (point : Point) (word next : ℕ) (o : Option Node)
    → slice_get nodes word ≡ o
    → IsSomeAnd o (λ found. next ≡ word_at found (released_side (fixed point.x) (fixed point.y) (fixed_node found)))
    → word < 32768 → FindsFrom nodes point word → FindsFrom nodes point next
finds_from_node nodes point word next None e h below from t finds = elim h [ ]
finds_from_node nodes point word next (Some found) e h below from t finds =
    from t (at_node word t found below e
    (subst (λ w. Finds nodes (fixed point.x) (fixed point.y) w t) h finds))

pub finds_from_next : (nodes all : List Node) (point : Point) (word next : ℕ) → nodes ≡ all
    → IsSomeAnd (slice_get nodes word) (λ found. next ≡ word_at found (released_side (fixed point.x) (fixed point.y) (fixed_node found)))
    → word < 32768 → FindsFrom all point word → FindsFrom all point next
finds_from_next nodes all point word next e h below from =
    finds_from_node all point word next (slice_get all word) refl
    (subst (λ (ns : List Node). IsSomeAnd (slice_get ns word) (λ found. next ≡ word_at found (released_side (fixed point.x) (fixed point.y) (fixed_node found)))) e h)
    below from

pub finds_at_end : (nodes : List Node) (point : Point) (word t : ℕ) → FindsFrom nodes point word
    → 32768 ≤ word → t ≡ word - 32768 → FindsSsector nodes point t
finds_at_end nodes point word t from past e = from t (at_ssector word t past e)
