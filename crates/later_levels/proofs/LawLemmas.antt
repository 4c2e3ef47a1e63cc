-- The laws of levels with later nodes.
use Rattle.std.proofs.Common.{◌≡◌, ◌≢◌, ◌⊎◌, ℕ, inl, inr, refl, subst, length, arith}
use Rattle.map_level.specs.Findings.{NoFaultHolds}
use Rattle.map_level.specs.declared.finding.Code.{Code}
use Rattle.map_level.specs.declared.finding.Code.TheVariants.{F11, F12, F13, F14, F15, F16, F17, N7}
use Rattle.node_tree.specs.LaterShape.{shape_of}
use Rattle.node_tree.specs.TreeFaults.{TreeHolds}
use Rattle.node_tree.proofs.FaultLemmas.{faultless_from_sound, sound_from_faultless}
use Rattle.node_tree.proofs.LawLemmas.{law_one_leaf}
use Rattle.later_levels.specs.Findings.{LaterHolds, PartHolds, part_of}
use Rattle.later_levels.specs.LaterLevel.{LaterLevel}
use Rattle.later_levels.specs.Laws.{OneLeaf, SoundIsFaultless}
use Rattle.later_levels.specs.Sound.{IsSound}
use Rattle.later_levels.specs.declared.codes.LaterPart.{LaterPart}
use Rattle.later_levels.specs.declared.codes.LaterPart.TheVariants.{Level, Segs, Tree, Tables, Nothing}

pub one_leaf : OneLeaf
one_leaf one point sound = law_one_leaf (shape_of one.later) point sound.tree

is_tree : (part : LaterPart) → (part ≡ Tree) ⊎ (part ≢ Tree)
is_tree Level = inr (λ e. cc)
is_tree Segs = inr (λ e. cc)
is_tree Tree = inl refl
is_tree Tables = inr (λ e. cc)
is_tree Nothing = inr (λ e. cc)

-- a fault of a sound level is neither of its nodes nor of the rest
pub faultless : (one : LaterLevel) → IsSound one → NoFaultHolds (LaterHolds one)
faultless one sound code i below holds = elim (is_tree (part_of code)) [
  | inr other ↦ sound.linked code i below other holds
  | inl tree ↦
      (faultless_from_sound (shape_of one.later) sound.tree).none code i below
      (subst (λ (part : LaterPart). PartHolds part one code i) tree holds)
]

-- what holds of the tree holds of the level
of_tree : (one : LaterLevel) (code : Code) (i : ℕ) → TreeHolds (shape_of one.later) code i → LaterHolds one code i
of_tree one F11 i h = h
of_tree one F12 i h = h
of_tree one F13 i h = h
of_tree one F14 i h = h
of_tree one F15 i h = h
of_tree one F16 i h = h
of_tree one N7 i h = h
of_tree one _ i h = absurd h

pub sound : (one : LaterLevel) → NoFaultHolds (LaterHolds one) → IsSound one
sound one none = record {
  linked = λ code i below other. none code i below;
  tree = sound_from_faultless (shape_of one.later) (record {
    none = λ code i below holds. none code i below (of_tree one code i holds);
    some =
        let some : (length one.later.ssectors ≡ 0) → ⊥ = λ empty. none F17 0 refl (refl, empty) in omega (arith, some);
  });
}

pub sound_is_faultless : SoundIsFaultless
sound_is_faultless one = (faultless one, sound one)
