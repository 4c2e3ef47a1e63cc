-- A level's own nodes and the same written wider: each word names the same place.
use Rattle.std.proofs.Common.{◌≡◌, ℕ, zero, suc, ◌-◌, inl, inr, refl, sym, ap, ◌∙◌, subst, Bool, Option, Some, None, IsTrue, List, length, arith}
use Rattle.std.specs.Prelude.{IsSome, IsSomeAnd, nat_lt, option_and_then, if◌then◌else◌}
use Rattle.std.specs.List.{slice_get}
use Rattle.std.specs.Option.{option_map}
use Rattle.std.proofs.lemmas.Bool.{cases_Bool, cond-false, cond-true}
use Rattle.std.proofs.lemmas.List.{length-map}
use Rattle.std.proofs.lemmas.Option.{slice_get-map}
use Rattle.le_rec.specs.declared.records.Node as record_node
use Rattle.map_geo.specs.declared.sides.Side.{Side}
use Rattle.map_geo.specs.declared.sides.Side.TheVariants.{Front, Back}
use Rattle.map_geo.specs.Partition.{Partition, partition_of}
use Rattle.map_geo.specs.Point.{IsInRange, Point}
use Rattle.map_geo.specs.Side.{side_of}
use Rattle.map_level.specs.Level.{Level}
use Rattle.map_tree.specs.Child as level_tree
use Rattle.map_tree.specs.Leaf as level_leaf
use Rattle.map_tree.specs.Paths.{Leads, LeadsIn, Place, node, ssector}
use Rattle.map_tree.specs.Sound as level_sound
use Rattle.node_lumps.specs.Later.{Later}
use Rattle.node_lumps.specs.declared.records.LaterNode.{LaterNode}
use Rattle.node_tree.specs.LaterShape.{child_at, child_in, node_partition, partition_in, place_in, place_named, shape_of}
use Rattle.node_tree.specs.Laws.{SameLeaf, SoundWider}
use Rattle.node_tree.specs.Leaf.{IsLeaf}
use Rattle.node_tree.specs.Shape.{is_place, root, side_at}
use Rattle.node_tree.specs.Sound.{IsNamedOnce, IsSound, IsTree}
use Rattle.node_tree.specs.Wider.{AreWider, wider_child, wider_node}

-- a word names the same place
same_place : (word : ℕ) → place_named (wider_child word) ≡ level_tree.place_of word
same_place word = elim (cases_Bool (nat_lt word 32768)) [
  | inl low ↦ ap place_named (cond-true (nat_lt word 32768) _ _ low) ∙ sym (cond-true (nat_lt word 32768) _ _ low)
  | inr high ↦ ap place_named (cond-false (nat_lt word 32768) _ _ high) ∙ sym (cond-false (nat_lt word 32768) _ _ high)
]

same_word : (found : record_node.Node) (s : Side)
    → place_named (child_at (wider_node found) s) ≡ level_tree.place_of (level_tree.word_at found s)
same_word found Front = same_place found.child0
same_word found Back = same_place found.child1

-- ways go by the same children
leads_same : (f g : ℕ → Side → Option Place) → ((n : ℕ) (s : Side) → f n s ≡ g n s)
    → (k : ℕ) (from to : Place) → LeadsIn f k from to → LeadsIn g k from to
leads_same f g same zero from to h = h
leads_same f g same (suc k) (node n) to h =
    (h.0, h.1, sym (same n h.0) ∙ h.2, leads_same f g same k h.1 to h.3)
leads_same f g same (suc k) (ssector t) to h = h

module _ (level : Level) (later : Later) (are : AreWider level later) where
  pub same_count : length later.nodes ≡ level_tree.node_count level
  same_count = ap length are.nodes ∙ length-map level.nodes.records wider_node

  same_has : (p : Place) → is_place (length later.nodes) (length later.ssectors) p ≡ level_tree.has level p
  same_has (node n) = ap (nat_lt n) same_count
  same_has (ssector t) = ap (nat_lt t) are.ssectors

  same_there : (p : Place) → place_in later p ≡ level_tree.where_there level p
  same_there p = ap (λ (b : Bool). if b then Some p else None) (same_has p)

  found_child : (o : Option record_node.Node) (s : Side)
      → option_and_then (λ (found : LaterNode). place_in later (place_named (child_at found s)))
      (option_map wider_node o)
      ≡ option_and_then (λ (found : record_node.Node). level_tree.where_there level (level_tree.place_of (level_tree.word_at found s))) o
  found_child None s = refl
  found_child (Some found) s =
      same_there (place_named (child_at (wider_node found) s))
      ∙ ap (level_tree.where_there level) (same_word found s)

  found_node : (n : ℕ) → slice_get later.nodes n ≡ option_map wider_node (slice_get level.nodes.records n)
  found_node n =
      ap (λ (nodes : List LaterNode). slice_get nodes n) are.nodes
      ∙ slice_get-map wider_node level.nodes.records n

  pub same_child : (n : ℕ) (s : Side) → child_in later n s ≡ level_tree.child level n s
  same_child n s =
      ap (λ (o : Option LaterNode). option_and_then (λ found. place_in later (place_named (child_at found s))) o)
      (found_node n)
      ∙ found_child (slice_get level.nodes.records n) s

  found_partition : (o : Option record_node.Node)
      → option_map node_partition (option_map wider_node o) ≡ option_map partition_of o
  found_partition None = refl
  found_partition (Some found) = refl

  pub same_partition : (n : ℕ) → partition_in later n ≡ option_map partition_of (slice_get level.nodes.records n)
  same_partition n =
      ap (λ (o : Option LaterNode). option_map node_partition o) (found_node n)
      ∙ found_partition (slice_get level.nodes.records n)

  found_side : (o : Option record_node.Node) (point : Point)
      → option_map (λ line. side_of line point) (option_map partition_of o)
      ≡ option_map (λ found. side_of (partition_of found) point) o
  found_side None point = refl
  found_side (Some found) point = refl

  same_side : (n : ℕ) (point : Point) → side_at (shape_of later) n point ≡ level_tree.side_at level n point
  same_side n point =
      ap (λ (o : Option Partition). option_map (λ line. side_of line point) o) (same_partition n)
      ∙ found_side (slice_get level.nodes.records n) point

  pub same_root : root (shape_of later) ≡ level_tree.root level
  same_root = ap level_tree.root_of same_count

  -- a place is reached in the one where it is in the other
  pub to_later : (from to : Place) → Leads (level_tree.child level) from to → Leads (child_in later) from to
  to_later from to h =
      (h.0, leads_same (level_tree.child level) (child_in later) (λ n s. sym (same_child n s)) h.0 from to h.1)

  pub to_level : (from to : Place) → Leads (child_in later) from to → Leads (level_tree.child level) from to
  to_level from to h = (h.0, leads_same (child_in later) (level_tree.child level) same_child h.0 from to h.1)

  leaf_later : (point : Point) (t : ℕ) → level_leaf.IsLeaf level point t → IsLeaf (shape_of later) point t
  leaf_later point t leaf = record {
    reached =
        subst (λ (p : Place). Leads (child_in later) p (ssector t)) (sym same_root)
        (to_later (level_tree.root level) (ssector t) leaf.reached);
    agrees =
        λ n s leads.
        same_side n point
        ∙ leaf.agrees n s (leads.0, sym (same_child n s) ∙ leads.1, to_level leads.0 (ssector t) leads.2);
  }

  leaf_level : (point : Point) (t : ℕ) → IsLeaf (shape_of later) point t → level_leaf.IsLeaf level point t
  leaf_level point t leaf = record {
    reached =
        to_level (level_tree.root level) (ssector t)
        (subst (λ (p : Place). Leads (child_in later) p (ssector t)) same_root leaf.reached);
    agrees =
        λ n s leads.
        sym (same_side n point)
        ∙ leaf.agrees n s (leads.0, same_child n s ∙ leads.1, to_later leads.0 (ssector t) leads.2);
  }

  -- a tree is one in both
  found_origin : (o : Option record_node.Node)
      → IsSomeAnd o (λ found. IsInRange found.x × IsInRange found.y)
      → IsSomeAnd (option_map partition_of o) (λ line. IsInRange line.x × IsInRange line.y)
  found_origin None h = h
  found_origin (Some found) h = h

  named_later : (p : Place) → level_sound.IsNamedOnce level p → IsNamedOnce (shape_of later) p
  named_later p once = record {
    parent = once.parent;
    side = once.side;
    names = same_child once.parent once.side ∙ once.names;
    only = λ n s e. once.only n s (sym (same_child n s) ∙ e);
  }

  tree_later : level_sound.IsTree level → IsTree (shape_of later)
  tree_later tree = record {
    words =
        λ n s within.
        subst (λ (o : Option Place). IsSome o) (sym (same_child n s)) (tree.words n s (omega (arith, same_count)));
    origins =
        λ n within.
        subst (λ (o : Option Partition). IsSomeAnd o (λ line. IsInRange line.x × IsInRange line.y))
        (sym (same_partition n))
        (found_origin (slice_get level.nodes.records n) (tree.origins n (omega (arith, same_count))));
    named =
        λ p there other.
        named_later p
        (tree.named p (subst (λ (b : Bool). IsTrue b) (same_has p) there) (λ is. other (is ∙ sym same_root)));
    root_unnamed =
        λ n s e. tree.root_unnamed n s (sym (same_child n s) ∙ e ∙ ap Some same_root);
    reached =
        λ p there.
        subst (λ (from : Place). Leads (child_in later) from p) (sym same_root)
        (to_later (level_tree.root level) p
        (tree.reached p (subst (λ (b : Bool). IsTrue b) (same_has p) there)));
  }

  sound_later : level_sound.IsSound level → IsSound (shape_of later)
  sound_later sound = record {
    tree = λ some. tree_later (sound.tree (omega (arith, same_count)));
    alone = λ none. are.ssectors ∙ sound.alone (sym same_count ∙ none);
  }

pub same_leaf : SameLeaf
same_leaf level later point t are = (leaf_later level later are point t, leaf_level level later are point t)

pub sound_wider : SoundWider
sound_wider level later are = sound_later level later are
