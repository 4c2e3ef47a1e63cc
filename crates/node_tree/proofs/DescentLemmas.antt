-- The loop of the descent, whose place stands on the way of the point.
use Rattle.std.proofs.Common.{◌≡◌, ℕ, ◌+◌, ◌-◌, ◌<◌, ◌≤◌, refl, sym, ap, ◌∙◌, subst, Option, Some, None, inl, inr, IsTrue, arith}
use Rattle.std.specs.Prelude.{IsSome, IsSomeAnd}
use Rattle.std.specs.Option.{option_map}
use Rattle.std.proofs.lemmas.Bool.{ltb-true}
use Rattle.std.proofs.lemmas.Option.{none-some}
use Rattle.map_geo.specs.Side.{side_of}
use Rattle.map_geo.specs.declared.sides.Side.{Side}
use Rattle.map_geo.specs.Partition.{Partition}
use Rattle.map_geo.specs.Point.{Point, IsInRange}
use Rattle.map_tree.specs.Paths.{Place, node, ssector}
use Rattle.node_tree.specs.declared.forked.Line.{Line}
use Rattle.node_tree.specs.Leaf.{IsLeaf, CountsAncestors}
use Rattle.node_tree.specs.Line.{line_partition}
use Rattle.node_tree.specs.Shape.{Shape, node_count, ssector_count, has, root}
use Rattle.node_tree.specs.Slots.{slot, child_slot}
use Rattle.node_tree.specs.Sound.{IsSound}
use Rattle.node_tree.specs.Steps.{IsStep}
use Rattle.node_tree.proofs.FaultLemmas.{no_none}
use Rattle.node_tree.proofs.LeafLemmas.{OnWay, child_some, one_leaf, way_deep, way_down, way_leaf, way_short, way_start, way_tests}
use Rattle.node_tree.proofs.SlotLemmas.{child_at_slot, child_slot_of}
use Rattle.node_tree.proofs.SoundLemmas.{root_alone, root_node, tree_from_sound, zero_or_suc}

-- the number of a place to which so many sides of the point lead
pub record IsAt (shape : Shape) (point : Point) (at tests : ℕ) : Type 0 where
  pub sound : IsSound shape
  pub place : Place
  pub is : slot shape place ≡ at
  pub way : OnWay shape point tests place

pub at_start : (shape : Shape) (point : Point) → IsSound shape → IsAt shape point (node_count shape - 1) 0
at_start shape point sound = record {
  sound = sound;
  place = root shape;
  is = elim (zero_or_suc (node_count shape)) [
    | inl none ↦ ap (slot shape) (root_alone shape none) ∙ (let e : node_count shape + 0 ≡ node_count shape - 1 = omega (arith, none) in e)
    | inr some ↦ ap (slot shape) (root_node shape some.0 some.1) ∙ (let e : some.0 ≡ node_count shape - 1 = omega (arith, some.1) in e)
  ];
  way = way_start shape point sound;
}

-- below the number of nodes it is a node's, and else an ssector's
node_at : (shape : Shape) (p : Place) (at : ℕ) → slot shape p ≡ at → at < node_count shape → p ≡ node at
node_at shape (node n) at e within = ap node e
node_at shape (ssector t) at e within = absurd (omega (arith, e, within))

ssector_at : (shape : Shape) (p : Place) (at : ℕ) → IsTrue (has shape p) → slot shape p ≡ at
    → node_count shape ≤ at → p ≡ ssector (at - node_count shape)
ssector_at shape (node n) at there e past =
    let h = ltb-true n (node_count shape) there in absurd (omega (arith, e, past, h))
ssector_at shape (ssector t) at there e past =
    let same : t ≡ at - node_count shape = omega (arith, e) in ap ssector same

module _ (shape : Shape) (point : Point) (at tests : ℕ) where
  on_node : at < node_count shape → IsAt shape point at tests → OnWay shape point tests (node at)
  on_node within here =
      subst (λ p. OnWay shape point tests p) (node_at shape here.place at here.is within) here.way

  on_ssector : node_count shape ≤ at → IsAt shape point at tests
      → OnWay shape point tests (ssector (at - node_count shape))
  on_ssector past here =
      subst (λ p. OnWay shape point tests p)
      (ssector_at shape here.place at here.way.there here.is past) here.way

  pub at_deep : at < node_count shape → IsAt shape point at tests → tests < node_count shape
  at_deep within here =
      way_deep shape point tests at (tree_from_sound shape here.sound) (on_node within here)

  pub at_short : IsAt shape point at tests → tests ≤ node_count shape
  at_short here = way_short shape point tests here.place (tree_from_sound shape here.sound) here.way

  pub at_next : (next : ℕ) → at < node_count shape → IsAt shape point at tests
      → IsStep shape point at next → IsAt shape point next (tests + 1)
  at_next next within here step =
      let below = child_at_slot shape at step.side next step.below in
      record {
        sound = here.sound;
        place = below.0;
        is = below.2;
        way = way_down shape point tests at step.side below.0 (on_node within here) step.on below.1;
      }

  pub at_smaller : at < node_count shape → IsAt shape point at tests
      → node_count shape - (tests + 1) < node_count shape - tests
  at_smaller within here = let deep = at_deep within here in omega (arith, deep)

  pub at_leaf : node_count shape ≤ at → IsAt shape point at tests
      → IsLeaf shape point (at - node_count shape)
  at_leaf past here =
      way_leaf shape point tests (at - node_count shape) (tree_from_sound shape here.sound) (on_ssector past here)

  pub at_only : node_count shape ≤ at → IsAt shape point at tests → (t : ℕ) → IsLeaf shape point t
      → t ≡ at - node_count shape
  at_only past here t other = one_leaf shape point t (at - node_count shape) other (at_leaf past here)

  pub at_tests : node_count shape ≤ at → IsAt shape point at tests
      → CountsAncestors shape (at - node_count shape) tests
  at_tests past here =
      way_tests shape point tests (at - node_count shape) (tree_from_sound shape here.sound) (on_ssector past here)

  pub at_within : node_count shape ≤ at → IsAt shape point at tests
      → at - node_count shape < ssector_count shape
  at_within past here =
      ltb-true (at - node_count shape) (ssector_count shape) (on_ssector past here).there

-- a sound tree has a place on each side of a node
pub step_there : (shape : Shape) (n : ℕ) (s : Side) → IsSound shape → n < node_count shape
    → (k : ℕ) × (child_slot shape n s ≡ Some k)
step_there shape n s sound within =
    let below = child_some shape n s (tree_from_sound shape sound) within in
    (slot shape below.0, child_slot_of shape n s below.0 below.1)

pub step_in : (shape : Shape) (n : ℕ) (s : Side) (o : Option ℕ) → IsSound shape → n < node_count shape
    → o ≡ child_slot shape n s → IsSome o
step_in shape n s None sound within e =
    let below = step_there shape n s sound within in absurd (none-some below.0 (e ∙ below.1))
step_in shape n s (Some k) sound within e = refl

-- a line at each node that is there
pub line_there : (shape : Shape) (n : ℕ) (o : Option Line) → n < node_count shape
    → shape.partition n ≡ option_map line_partition o → IsSome o
line_there shape n None within e =
    absurd (no_none (shape.partition n) (shape.lined n within) e)
line_there shape n (Some line) within e = refl

pub line_found : (shape : Shape) (n : ℕ) (o : Option Line) (line : Line)
    → shape.partition n ≡ option_map line_partition o → o ≡ Some line
    → shape.partition n ≡ Some (line_partition line)
line_found shape n o line e f = e ∙ ap (λ (o : Option Line). option_map line_partition o) f

-- the step to the place on the side of a node's line
pub step_by : (shape : Shape) (point : Point) (n next : ℕ) (s : Side) (line : Partition)
    → shape.partition n ≡ Some line → s ≡ side_of line point → child_slot shape n s ≡ Some next
    → IsStep shape point n next
step_by shape point n next s line e f below = record {
  side = s;
  on = ap (λ (o : Option Partition). option_map (λ (l : Partition). side_of l point) o) e ∙ ap Some (sym f);
  below = below;
}

-- and an origin in range at each node
origin_by : (o : Option Partition) (line : Partition) → o ≡ Some line
    → IsSomeAnd o (λ line. IsInRange line.x × IsInRange line.y) → IsInRange line.x × IsInRange line.y
origin_by None line e h = absurd h
origin_by (Some other) line e h =
    let same : other ≡ line = cc in subst (λ (l : Partition). IsInRange l.x × IsInRange l.y) same h

pub origin_there : (shape : Shape) (n : ℕ) (line : Partition) → IsSound shape → n < node_count shape
    → shape.partition n ≡ Some line → IsInRange line.x × IsInRange line.y
origin_there shape n line sound within e =
    origin_by (shape.partition n) line e ((tree_from_sound shape sound).origins n within)
