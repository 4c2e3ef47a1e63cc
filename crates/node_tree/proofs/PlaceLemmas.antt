-- A tree has each node and ssector at which a code holds.
use Rattle.std.proofs.Common.{◌≡◌, ℕ, ◌<◌, ◌≤◌, ◌↔◌, Option, Some, None, IsTrue, false, inl, inr, refl, arith}
use Rattle.std.specs.Prelude.{IsSomeAnd}
use Rattle.std.proofs.lemmas.Bool.{false≢true, ltb-true}
use Rattle.map_geo.specs.Partition.{Partition}
use Rattle.node_tree.specs.Shape.{Shape}
use Rattle.map_tree.specs.Paths.{node, ssector}
use Rattle.node_tree.specs.Shape.{node_count, ssector_count}
use Rattle.node_tree.specs.TreeBounds.{NodeFound, SsectorFound}
use Rattle.node_tree.specs.TreeFaults.{NodeNamedTwice, SsectorNamedTwice}
use Rattle.node_tree.proofs.SoundLemmas.{child_there}

-- a node of whose partition something holds
within_by : (shape : Shape) (n : ℕ) (P : Partition → Type 0) (o : Option Partition) → shape.partition n ≡ o
    → IsSomeAnd o P → n < node_count shape
within_by shape n P None e h = absurd h
within_by shape n P (Some line) e h = shape.line_in n line e

line_within : (shape : Shape) (n : ℕ) (P : Partition → Type 0) → IsSomeAnd (shape.partition n) P
    → n < node_count shape
line_within shape n P h = within_by shape n P (shape.partition n) refl h

pub node_there : (shape : Shape) (n : ℕ) → NodeFound shape n → n < node_count shape
node_there shape n (inl (inl h)) = h.0
node_there shape n (inl (inr (inl h))) = line_within shape n _ h
node_there shape n (inl (inr (inr h))) = line_within shape n _ h
node_there shape n (inr (inl (inl twice))) = ltb-true n (node_count shape) (child_there shape twice.n twice.s (node n) twice.names)
node_there shape n (inr (inl (inr root))) =
    let named = root.1 in
    ltb-true n (node_count shape) (child_there shape named.0 named.1 (node n) named.2)
node_there shape n (inr (inr h)) = h.0

pub ssector_there : (shape : Shape) (t : ℕ) → SsectorFound shape t → t < ssector_count shape
ssector_there shape t (inl twice) = ltb-true t (ssector_count shape) (child_there shape twice.n twice.s (ssector t) twice.names)
ssector_there shape t (inr h) = h.0

-- behind the last one none is named twice
pub node_past : (shape : Shape) (n : ℕ) → node_count shape ≤ n → IsTrue false ↔ NodeNamedTwice shape n
node_past shape n past = (
  (λ h. absurd (false≢true h)),
  (λ twice. let within = node_there shape n (inr (inl twice)) in absurd (omega (arith, past, within))),
)

pub ssector_past : (shape : Shape) (t : ℕ) → ssector_count shape ≤ t → IsTrue false ↔ SsectorNamedTwice shape t
ssector_past shape t past = (
  (λ h. absurd (false≢true h)),
  (λ twice. let within = ssector_there shape t (inl twice) in absurd (omega (arith, past, within))),
)
