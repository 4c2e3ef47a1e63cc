-- What the definitions over a level give: where a child is, and that a sound level is a tree.
use Rattle.std.proofs.Common.{◌≡◌, ℕ, zero, suc, ◌<◌, ◌≤◌, ◌⊎◌, inl, inr, refl, sym, ap, ◌∙◌, subst, ℤ, pos, negsuc, length, Option, Some, IsTrue, arith}
use Rattle.std.specs.Prelude.{nat_lt, option_and_then}
use Rattle.std.specs.List.{slice_get}
use Rattle.std.proofs.lemmas.Bool.{lt-ltb, ltb-true, cases_lt}
use Rattle.std.proofs.lemmas.List.{length-map}
use Rattle.map_level.specs.Reading.{ssector_under}
use Rattle.std.proofs.lemmas.Option.{option_and_then_some, cond_some, slice_get_within}
use Rattle.le_rec.specs.declared.records.Node.{Node}
use Rattle.le_rec.specs.declared.records.Seg.{Seg}
use Rattle.le_rec.specs.declared.records.SideDef.{SideDef}
use Rattle.map_geo.specs.declared.sides.Side.{Side}
use Rattle.map_level.specs.Level.{Level}
use Rattle.map_level.specs.declared.finding.Code.TheVariants.{F17, F18, N1}
use Rattle.map_level.specs.Findings.{rank}
use Rattle.map_level.specs.Links.{sectors_of}
use Rattle.map_level.specs.SectorOf.{number_named, first_seg, sidedef_of, sector_of, IsLinked}
use Rattle.map_tree.specs.Paths.{Place, node, ssector}
use Rattle.map_tree.specs.Child.{node_count, ssector_count, place_of, word_at, has, where_there, child, root_of, root}
use Rattle.map_tree.specs.Sound.{IsTree, IsSound}
use Rattle.map_tree.proofs.TreeLemmas.{IsOnce}

pub parent_in : (level : Level) (n : ℕ) (s : Side) (p : Place) → child level n s ≡ Some p
    → n < node_count level
parent_in level n s p e =
    option_and_then_some (λ (found : Node). where_there level (place_of (word_at found s)))
    (slice_get level.nodes.records n) p e
    (λ found o f. slice_get_within level.nodes.records n found o)

pub child_there : (level : Level) (n : ℕ) (s : Side) (p : Place) → child level n s ≡ Some p
    → IsTrue (has level p)
child_there level n s p e =
    option_and_then_some (λ (found : Node). where_there level (place_of (word_at found s)))
    (slice_get level.nodes.records n) p e (λ found o f.
    let r = cond_some (has level (place_of (word_at found s))) (place_of (word_at found s)) p f in
    subst (λ x. IsTrue (has level x)) r.1 r.0)

pub root_node : (level : Level) (n : ℕ) → node_count level ≡ suc n → root level ≡ node n
root_node level n e = ap root_of e

pub root_alone : (level : Level) → node_count level ≡ 0 → root level ≡ ssector 0
root_alone level e = ap root_of e

-- a number is 0 or has one before it
pub zero_or_suc : (n : ℕ) → (n ≡ 0) ⊎ ((m : ℕ) × (n ≡ suc m))
zero_or_suc zero = inl refl
zero_or_suc (suc n) = inr (n, refl)

-- a level without nodes and with one ssector
alone_is_root : (level : Level) (p : Place) → node_count level ≡ 0 → ssector_count level ≡ 1
    → IsTrue (has level p) → p ≡ root level
alone_is_root level (node n) none one there =
    let h = ltb-true n (node_count level) there in absurd (omega arith)
alone_is_root level (ssector t) none one there =
    let h = ltb-true t (ssector_count level) there in
    let first : t ≡ 0 = omega arith in
    ap ssector first ∙ sym (root_alone level none)

tree_alone : (level : Level) → node_count level ≡ 0 → ssector_count level ≡ 1 → IsTree level
tree_alone level none one = record {
  words = λ n s h. absurd (omega arith);
  origins = λ n h. absurd (omega arith);
  named = λ p there other. absurd (other (alone_is_root level p none one there));
  root_unnamed = λ n s e. let h = parent_in level n s (root level) e in omega arith;
  reached = λ p there. (0, sym (alone_is_root level p none one there));
}

pub tree_from_sound : (level : Level) → IsSound level → IsTree level
tree_from_sound level sound = elim (zero_or_suc (node_count level)) [
  | inl none ↦ tree_alone level none (sound.alone none)
  | inr some ↦ sound.tree (omega (arith, some.1))
]

-- a sound level has an ssector, and at most 32767 nodes
pub some_ssector : (level : Level) → IsSound level → 0 < ssector_count level
some_ssector level sound = elim (zero_or_suc (ssector_count level)) [
  | inl none ↦
      absurd (sound.linked F17 0 refl
      (refl, length-map level.ssectors.records (ssector_under level.reading) ∙ none))
  | inr some ↦ omega (arith, some.1)
]

pub few_nodes : (level : Level) → IsSound level → node_count level ≤ 32767
few_nodes level sound = elim (cases_lt 32767 (node_count level)) [
  | inl more ↦ absurd (sound.linked F18 0 refl (refl, more))
  | inr few ↦ few
]

-- and its links are those of a level in which each ssector has a sector
pub linked_from_sound : (level : Level) → IsSound level → IsLinked level
linked_from_sound level sound =
    λ code i link h. sound.linked code i (lt-ltb (rank code) (rank N1) (omega (arith, link.1))) h

-- a number that names one of so many is below them
number_below : (count : ℕ) (z : ℤ) (k : ℕ) → number_named count z ≡ Some k → k < count
number_below count (pos n) k e =
    let r = cond_some (nat_lt n count) n k e in
    subst (λ m. m < count) r.1 (ltb-true n count r.0)
number_below count (negsuc n) k e = cc

-- the sector of an ssector is one of the level's
pub sector_below : (level : Level) (t k : ℕ) → sector_of level t ≡ Some k → k < length level.sectors.records
sector_below level t k e =
    let number : SideDef → Option ℕ = λ sidedef. number_named (length (sectors_of level)) sidedef.sector in
    option_and_then_some (λ (seg : Seg). option_and_then number (sidedef_of level seg)) (first_seg level t) k e (λ seg first on.
    option_and_then_some number (sidedef_of level seg) k on (λ sidedef there is. number_below (length (sectors_of level)) sidedef.sector k is))

pub root_there : (level : Level) → 0 < ssector_count level → IsTrue (has level (root level))
root_there level some = elim (zero_or_suc (node_count level)) [
  | inl none ↦
      subst (λ x. IsTrue (has level x)) (sym (root_alone level none))
      (lt-ltb 0 (ssector_count level) some)
  | inr more ↦
      subst (λ x. IsTrue (has level x)) (sym (root_node level more.0 more.1))
      (lt-ltb more.0 (node_count level) (omega (arith, more.1)))
]

pub once_from_tree : (level : Level) → IsTree level
    → IsOnce (child level) (node_count level) (root level)
once_from_tree level tree = record {
  once = λ n m s u p e f.
      let named =
      tree.named p (child_there level n s p e) (λ r. tree.root_unnamed n s (e ∙ ap Some r)) in
      let one = named.only n s e in
      let other = named.only m u f in
      (one.0 ∙ sym other.0, one.1 ∙ sym other.1);
  not_root = λ n s e. tree.root_unnamed n s e;
  parent_in = parent_in level;
}
