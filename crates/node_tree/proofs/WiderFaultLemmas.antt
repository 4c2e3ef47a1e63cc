-- A level's own nodes and the same written wider have the same findings.
use Rattle.std.proofs.Common.{◌≡◌, ℕ, ◌<◌, inl, inr, sym, ◌∙◌, subst, pos, Option, Some, None, length, arith}
use Rattle.std.specs.Prelude.{IsSomeAnd}
use Rattle.std.specs.List.{slice_get}
use Rattle.std.specs.Option.{option_map}
use Rattle.le_rec.specs.declared.records.Node.{Node}
use Rattle.map_geo.specs.declared.sides.Side.TheVariants.{Front, Back}
use Rattle.map_geo.specs.Partition.{Partition, partition_of}
use Rattle.map_geo.specs.Point.{IsInRange}
use Rattle.map_level.specs.Level.{Level}
use Rattle.map_level.specs.declared.finding.Code.{Code}
use Rattle.map_level.specs.declared.finding.Code.TheVariants.{F11, F12, F13, F14, F15, F16, N7}
use Rattle.map_tree.specs.Child as level_tree
use Rattle.map_tree.specs.Paths.{Leads, Place, node, ssector}
use Rattle.map_tree.specs.TreeFaults as level_faults
use Rattle.node_lumps.specs.Later.{Later}
use Rattle.node_tree.specs.LaterShape.{child_in, partition_in, shape_of}
use Rattle.node_tree.specs.Laws.{SameFindings}
use Rattle.node_tree.specs.Shape.{IsReached}
use Rattle.node_tree.specs.TreeFaults.{IsNamed, IsNamedTwice, TreeHolds}
use Rattle.node_tree.specs.Wider.{AreWider}
use Rattle.node_tree.proofs.WiderLemmas.{same_child, same_count, same_partition, same_root, to_later, to_level}

-- what holds of a node's partition holds of the node
line_of : (P : Partition → Type 0) (o : Option Node) → IsSomeAnd o (λ found. P (partition_of found))
    → IsSomeAnd (option_map partition_of o) P
line_of P None h = h
line_of P (Some found) h = h

node_of_line : (P : Partition → Type 0) (o : Option Node) → IsSomeAnd (option_map partition_of o) P
    → IsSomeAnd o (λ found. P (partition_of found))
node_of_line P None h = h
node_of_line P (Some found) h = h

abbrev IsOutside : Partition → Type 0
IsOutside line = ¬ (IsInRange line.x × IsInRange line.y)

abbrev IsWithoutDirection : Partition → Type 0
IsWithoutDirection line = (line.dx ≡ pos 0) × (line.dy ≡ pos 0)

module _ (level : Level) (later : Later) (are : AreWider level later) where
  line_later : (P : Partition → Type 0) (n : ℕ)
      → IsSomeAnd (slice_get level.nodes.records n) (λ found. P (partition_of found))
      → IsSomeAnd (partition_in later n) P
  line_later P n h =
      subst (λ (o : Option Partition). IsSomeAnd o P) (sym (same_partition level later are n))
      (line_of P (slice_get level.nodes.records n) h)

  line_level : (P : Partition → Type 0) (n : ℕ) → IsSomeAnd (partition_in later n) P
      → IsSomeAnd (slice_get level.nodes.records n) (λ found. P (partition_of found))
  line_level P n h =
      node_of_line P (slice_get level.nodes.records n)
      (subst (λ (o : Option Partition). IsSomeAnd o P) (same_partition level later are n) h)

  named_later : (p : Place) → level_faults.IsNamed level p → IsNamed (shape_of later) p
  named_later p h = (h.0, h.1, same_child level later are h.0 h.1 ∙ h.2)

  named_level : (p : Place) → IsNamed (shape_of later) p → level_faults.IsNamed level p
  named_level p h = (h.0, h.1, sym (same_child level later are h.0 h.1) ∙ h.2)

  twice_later : (p : Place) → level_faults.IsNamedTwice level p → IsNamedTwice (shape_of later) p
  twice_later p h = record {
    n = h.n;
    s = h.s;
    names = same_child level later are h.n h.s ∙ h.names;
    m = h.m;
    u = h.u;
    names_too = same_child level later are h.m h.u ∙ h.names_too;
    apart = h.apart;
  }

  twice_level : (p : Place) → IsNamedTwice (shape_of later) p → level_faults.IsNamedTwice level p
  twice_level p h = record {
    n = h.n;
    s = h.s;
    names = sym (same_child level later are h.n h.s) ∙ h.names;
    m = h.m;
    u = h.u;
    names_too = sym (same_child level later are h.m h.u) ∙ h.names_too;
    apart = h.apart;
  }

  reached_later : (p : Place) → level_tree.IsReached level p → IsReached (shape_of later) p
  reached_later p h =
      subst (λ (from : Place). Leads (child_in later) from p) (sym (same_root level later are))
      (to_later level later are (level_tree.root level) p h)

  reached_level : (p : Place) → IsReached (shape_of later) p → level_tree.IsReached level p
  reached_level p h =
      to_level level later are (level_tree.root level) p
      (subst (λ (from : Place). Leads (child_in later) from p) (same_root level later are) h)

  within_later : (n : ℕ) → n < level_tree.node_count level → n < length later.nodes
  within_later n h = omega (arith, h, same_count level later are)

  within_level : (n : ℕ) → n < length later.nodes → n < level_tree.node_count level
  within_level n h = omega (arith, h, same_count level later are)

  found_later : (code : Code) (i : ℕ) → level_faults.TreeHolds level code i
      → TreeHolds (shape_of later) code i
  found_later F11 i (within, inl none) =
      (within_later i within, inl (same_child level later are i Front ∙ none))
  found_later F11 i (within, inr none) =
      (within_later i within, inr (same_child level later are i Back ∙ none))
  found_later F12 i h = line_later IsOutside i h
  found_later F13 i (inl twice) = inl (twice_later (node i) twice)
  found_later F13 i (inr (is_root, named)) =
      inr (same_root level later are ∙ is_root, named_later (node i) named)
  found_later F14 i (within, unreached) =
      (within_later i within, (λ h. unreached (reached_level (node i) h)))
  found_later F15 i h = twice_later (ssector i) h
  found_later F16 i (within, unreached) =
      (rw are.ssectors within, (λ h. unreached (reached_level (ssector i) h)))
  found_later N7 i h = line_later IsWithoutDirection i h
  found_later _ i h = h

  found_level : (code : Code) (i : ℕ) → TreeHolds (shape_of later) code i
      → level_faults.TreeHolds level code i
  found_level F11 i (within, inl none) =
      (within_level i within, inl (sym (same_child level later are i Front) ∙ none))
  found_level F11 i (within, inr none) =
      (within_level i within, inr (sym (same_child level later are i Back) ∙ none))
  found_level F12 i h = line_level IsOutside i h
  found_level F13 i (inl twice) = inl (twice_level (node i) twice)
  found_level F13 i (inr (is_root, named)) =
      inr (sym (same_root level later are) ∙ is_root, named_level (node i) named)
  found_level F14 i (within, unreached) =
      (within_level i within, (λ h. unreached (reached_later (node i) h)))
  found_level F15 i h = twice_level (ssector i) h
  found_level F16 i (within, unreached) =
      (rw are.ssectors at within, (λ h. unreached (reached_later (ssector i) h)))
  found_level N7 i h = line_level IsWithoutDirection i h
  found_level _ i h = h

pub same_findings : SameFindings
same_findings level later code i are =
    (found_later level later are code i, found_level level later are code i)
