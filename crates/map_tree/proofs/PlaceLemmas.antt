-- The level has each node and ssector at which a code holds.
use Rattle.std.proofs.Common.{◌≡◌, ℕ, ◌-◌, ◌<◌, ◌≤◌, inl, inr, arith}
use Rattle.std.proofs.lemmas.Bool.{ltb-true}
use Rattle.std.proofs.lemmas.Bool.Decides.{nat_tests}
use Rattle.map_level.specs.Level.{Level}
use Rattle.map_level.proofs.BoundLemmas.{some_within}
use Rattle.map_tree.specs.Paths.{node, ssector}
use Rattle.map_tree.specs.Child.{node_count, ssector_count, place_of}
use Rattle.map_tree.specs.TreeBounds.{NodeFound, SsectorFound}
use Rattle.map_tree.proofs.SoundLemmas.{child_there}

pub node_there : (level : Level) (n : ℕ) → NodeFound level n → n < node_count level
node_there level n (inl (inl h)) = h.0
node_there level n (inl (inr (inl h))) = some_within level.nodes.records n _ h
node_there level n (inl (inr (inr h))) = some_within level.nodes.records n _ h
node_there level n (inr (inl (inl twice))) = ltb-true n (node_count level) (child_there level twice.n twice.s (node n) twice.names)
node_there level n (inr (inl (inr root))) =
    let named = root.1 in
    ltb-true n (node_count level) (child_there level named.0 named.1 (node n) named.2)
node_there level n (inr (inr h)) = h.0

pub ssector_there : (level : Level) (t : ℕ) → SsectorFound level t → t < ssector_count level
ssector_there level t (inl twice) = ltb-true t (ssector_count level) (child_there level twice.n twice.s (ssector t) twice.names)
ssector_there level t (inr h) = h.0

-- the ssector that a word names
pub ssector_place : (w : ℕ) → 32768 ≤ w → place_of w ≡ ssector (w - 32768)
ssector_place w h = grind (arith, nat_tests)
