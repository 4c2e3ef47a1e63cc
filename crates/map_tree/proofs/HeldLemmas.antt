-- What a census has so far, and how one step keeps it.
use Rattle.std.proofs.Common.{ℕ, suc, ◌+◌, ◌-◌, ◌<◌, ◌≤◌, max, ℤ, ◌≡◌, inl, refl, subst, List, [], ◌∷◌, length, get_or, set, Some, arith}
use Rattle.std.specs.List.{sum, slice_get}
use Rattle.std.proofs.lemmas.List.Sums.{sum_by-set}
use Rattle.le_rec.specs.declared.records.Node.{Node}
use Rattle.map_geo.specs.declared.sides.Side.{Side}
use Rattle.map_geo.specs.Point.{Point, point_at}
use Rattle.map_geo.specs.Partition.{partition_of}
use Rattle.map_geo.specs.Side.{side_of, other}
use Rattle.map_geo.specs.Rect.{Rect, IsRect, IsWholeSide, rows_of, point_count}
use Rattle.map_level.specs.Level.{Level}
use Rattle.map_level.specs.SectorOf.{sector_of}
use Rattle.map_tree.specs.declared.pieces.Piece.{Piece}
use Rattle.map_tree.specs.Paths.{Place, node}
use Rattle.map_tree.specs.Child.{place_of, word_at, root}
use Rattle.map_tree.specs.PlainCount.{TellsSectors, plain_count}
use Rattle.map_tree.specs.Cuts.{IsCut, IsLast, Halvings, IsMiddleRow, rows_to, rows_above, columns_to, columns_right}
use Rattle.map_tree.specs.Work.{partition_at, Work, at_ssector, to_child, by_rows, in_row}
use Rattle.map_tree.proofs.LeafLemmas.{child_is}
use Rattle.map_tree.proofs.FewLemmas.{IsSized, area_from_rect}
use Rattle.map_tree.proofs.PieceLemmas.{total, Each, potential, area, plain, IsGood, measure, measure_down, measure_apart, partition_is, middle_from, middle_below, added_apart, added_leaf, length-area, good-start, counted-leaf, good-low, good-high, good-down, good-left, good-right, potential-down, potential-rows}
use Rattle.map_tree.proofs.PlaceLemmas.{ssector_place}
use Rattle.map_tree.proofs.DescentLemmas.{place_below}
use Rattle.map_tree.proofs.BoundLemmas.{Halvings-most, near_halvings, size-sides, rows_of-one, most_tests}
use Rattle.map_tree.proofs.RowLemmas.{alike, near_side, far_side}
use Rattle.map_tree.proofs.CountLemmas.{plain-rows, plain-columns, area-rows, area-columns, area-some}

-- each depth is at least 1
pub Work-depth : (level : Level) (b : Rect) (place : Place) (w d : ℕ) → Work level b place w d → 1 ≤ d
Work-depth level _ _ _ _ (at_ssector b t) = omega arith
Work-depth level _ _ _ _ (to_child b n line s q w p at on is_child rest) = Work-depth level b q w p rest
Work-depth level _ _ _ _ (by_rows b n line y w1 p1 w2 p2 at cut middle low high) = omega arith
Work-depth level _ _ _ _ (in_row b n line s c q r h w1 p1 w2 p2 at cut flat has_s last halvings is_child is_other first second) = omega arith

-- what the pending pieces owe: given the work of each, the newest first, the work of the whole rectangle at the root
abbrev pub Owes : Level → Rect → List Piece → ℕ → ℕ → Type 0
Owes level rect [] tests most = Work level rect (root level) tests most
Owes level rect (p ∷ ps) tests most =
    (w d : ℕ) → Work level p.rect (place_of p.word) w d → Owes level rect ps (tests + w) (max most (d + length ps))

pub Owes-same : (level : Level) (rect : Rect) (ps : List Piece) (t u m k : ℕ) → t ≡ u → m ≡ k → Owes level rect ps t m → Owes level rect ps u k
Owes-same level rect ps t u m k e f owes = subst (λ x. Owes level rect ps x k) e (subst (λ x. Owes level rect ps t x) f owes)

pub Owes-start : (level : Level) (rect : Rect) (p : Piece) → p.rect ≡ rect → place_of p.word ≡ root level → Owes level rect (p ∷ []) 0 1
Owes-start level rect p same at_root = λ w d work.
    let some = Work-depth _ _ _ _ _ work in
    Owes-same level rect [] w (0 + w) d (max 1 (d + 0)) (omega arith) (omega arith) (rw (same, at_root) at work)

-- what a census has so far
pub record Held (level : Level) (size : Place → ℕ) (rect : Rect) (stack : List Piece) (counts : List ℕ) (tests most : ℕ) : Type 0 where
  pub good : Each (IsGood level) stack
  pub owes : Owes level rect stack tests most
  pub deep : length stack ≤ most
  pub shallow : most ≤ point_count rect
  pub budget : tests + total (potential size) stack ≤ most_tests (rows_of rect) (size (root level))
  pub added : sum counts + total area stack ≡ point_count rect
  pub counted : (sector : Point → ℕ) → TellsSectors level sector → (s : ℕ) → get_or counts s 0 + total (plain sector s) stack ≡ plain_count sector s rect

budget_down : (t a b r n : ℕ) → suc b ≤ a → t + (a + r) ≤ n → t + 1 + (b + r) ≤ n
budget_down t a b r n h k = omega arith

budget_apart : (t a b c r n more : ℕ) → b + c + more ≤ a → t + (a + r) ≤ n → t + more + (c + (b + r)) ≤ n
budget_apart t a b c r n more h k = omega arith

tests_same : (t w1 w2 more : ℕ) → t + (w1 + w2 + more) ≡ t + more + w2 + w1
tests_same t w1 w2 more = omega arith

depth_same : (m k d1 d2 : ℕ) → 1 ≤ d2 → max m (max (d2 + 1) d1 + k) ≡ max (max (max m (k + 2)) (d2 + suc k)) (d1 + k)
depth_same m k d1 d2 some = omega arith

deep_apart : (m k : ℕ) → suc (suc k) ≤ max m (k + 2)
deep_apart m k = omega arith

shallow_apart : (m k t a b c r n : ℕ) → m ≤ n → a ≡ b + c → k ≤ r → 1 ≤ b → 1 ≤ c → t + (a + r) ≡ n → max m (k + 2) ≤ n
shallow_apart m k t a b c r n h1 h2 h3 h4 h5 h6 = omega arith

row_tests : (w1 w2 h : ℕ) → w1 + w2 + 1 + (1 + h) ≡ w1 + w2 + (2 + h)
row_tests w1 w2 h = omega arith

potential_row : (m1 m2 h : ℕ) → h ≤ 15 → most_tests 1 m1 + most_tests 1 m2 + (2 + h) ≤ most_tests 1 (suc (m1 + m2))
potential_row m1 m2 h few = omega arith

leaf_owes : (t m d k : ℕ) → suc k ≤ m → max m (1 + k) ≡ m
leaf_owes t m d k h = omega arith

suc_le : (a b : ℕ) → suc a ≤ b → a ≤ b
suc_le a b h = omega arith

less_budget : (t a r n : ℕ) → t + (a + r) ≤ n → t + r ≤ n
less_budget t a r n h = omega arith

module _ (level : Level) (size : Place → ℕ) (rect : Rect) (sized : IsSized level size) where
  pub Held-start : (p : Piece) (counts : List ℕ) → p.rect ≡ rect → place_of p.word ≡ root level → IsRect rect → sum counts ≡ 0 → ((s : ℕ) → get_or counts s 0 ≡ 0) → Held level size rect (p ∷ []) counts 0 1
  Held-start p counts same at_root valid none zeros = record {
    good = (good-start level size sized rect p same at_root valid, tt);
    owes = Owes-start level rect p same at_root;
    deep = omega arith;
    shallow = area-some rect (area_from_rect rect valid);
    budget = rw (same, at_root) (omega arith);
    added = rw same (omega arith);
    counted = λ sector tells s. let z = zeros s in rw same (omega arith);
  }

  -- the whole piece to a child
  module _ (p : Piece) (rest : List Piece) (counts : List ℕ) (tests most : ℕ) (found : Node) (below : p.word < 32768) (is : slice_get level.nodes.records p.word ≡ Some found) (held : Held level size rect (p ∷ rest) counts tests most) where
    at_node : partition_at level p.word ≡ Some (partition_of found)
    at_node = partition_is level p.word found is

    pub less-down : (s : Side) → measure size (record { rect = p.rect; word = word_at found s } ∷ rest) < measure size (p ∷ rest)
    less-down s = measure_down _ _ _ _ (potential-down level size sized p held.good.0 found below is s)

    pub Held-down : (s : Side) → IsWholeSide p.rect (partition_of found) s → Held level size rect (record { rect = p.rect; word = word_at found s } ∷ rest) counts (tests + 1) most
    Held-down s on = record {
      good = (good-down level size sized p held.good.0 found below is s on, held.good.1);
      owes = λ w d work. Owes-same level rect rest (tests + suc w) (tests + 1 + w) _ _ (omega arith) refl (held.owes (suc w) d (rw (place_below p.word below) (to_child p.rect p.word (partition_of found) s _ w d at_node on (child_is level p.word found s sized.tree is) work)));
      deep = held.deep;
      shallow = held.shallow;
      budget = budget_down tests _ _ _ _ (potential-down level size sized p held.good.0 found below is s) held.budget;
      added = held.added;
      counted = held.counted;
    }

    -- a cut into rows, and the cut of one row: what both keep
    held_apart : (first second : Piece) (more : ℕ) → IsGood level first → IsGood level second
        → ((w1 d1 w2 d2 : ℕ) → Work level first.rect (place_of first.word) w1 d1 → Work level second.rect (place_of second.word) w2 d2 → Work level p.rect (place_of p.word) (w1 + w2 + more) (max (d2 + 1) d1))
        → potential size first + potential size second + more ≤ potential size p
        → area p ≡ area first + area second
        → ((sector : Point → ℕ) (s : ℕ) → plain sector s p ≡ plain sector s first + plain sector s second)
        → Held level size rect (second ∷ first ∷ rest) counts (tests + more) (max most (length rest + 2))
    held_apart first second more good_first good_second work less parts counts_parts = record {
      good = (good_second, (good_first, held.good.1));
      owes = λ w2 d2 work2 w1 d1 work1.
          let some = Work-depth _ _ _ _ _ work2 in
          Owes-same level rect rest _ _ _ _ (tests_same tests w1 w2 more) (depth_same most (length rest) d1 d2 some) (held.owes (w1 + w2 + more) (max (d2 + 1) d1) (work w1 d1 w2 d2 work1 work2));
      deep = deep_apart most (length rest);
      shallow = shallow_apart most (length rest) (sum counts) _ _ _ _ _ held.shallow parts (length-area level size sized rest held.good.1) (area-some first.rect (area_from_rect first.rect good_first.valid)) (area-some second.rect (area_from_rect second.rect good_second.valid)) held.added;
      budget = budget_apart tests _ _ _ _ _ more less held.budget;
      added = added_apart (sum counts) _ _ _ _ _ parts held.added;
      counted = λ sector are s. added_apart (get_or counts s 0) _ _ _ _ _ (counts_parts sector s) (held.counted sector are s);
    }

    pub less-rows : (y : ℤ) → IsMiddleRow p.rect y → measure size (record { rect = rows_above p.rect y; word = p.word } ∷ (record { rect = rows_to p.rect y; word = p.word } ∷ rest)) < measure size (p ∷ rest)
    less-rows y middle = measure_apart _ _ _ 1 _ _ (omega arith) (potential-rows level size sized p held.good.0 found below is y middle)

    pub Held-rows : (y : ℤ) → IsCut p.rect (partition_of found) → IsMiddleRow p.rect y
        → Held level size rect (record { rect = rows_above p.rect y; word = p.word } ∷ (record { rect = rows_to p.rect y; word = p.word } ∷ rest)) counts (tests + 1) (max most (length rest + 2))
    Held-rows y cut middle =
        let from = middle_from p.rect y middle in
        let less = middle_below p.rect y middle in
        let low : Piece = record { rect = rows_to p.rect y; word = p.word } in
        let high : Piece = record { rect = rows_above p.rect y; word = p.word } in
        held_apart low high 1
        (good-low level size sized p held.good.0 y middle)
        (good-high level size sized p held.good.0 y middle)
        (λ w1 d1 w2 d2 work1 work2. rw (place_below p.word below) (by_rows p.rect p.word (partition_of found) y w1 d1 w2 d2 at_node cut middle (rw (place_below p.word below) at work1) (rw (place_below p.word below) at work2)))
        (potential-rows level size sized p held.good.0 found below is y middle)
        (area-rows p.rect y from less)
        (λ sector s. plain-rows sector s p.rect y from less)

    module _ (s : Side) (c : ℤ) (h : ℕ) (cut : IsCut p.rect (partition_of found)) (flat : p.rect.y0 ≡ p.rect.y1) (left : side_of (partition_of found) (point_at p.rect.x0 p.rect.y0) ≡ s) (last : IsLast (partition_of found) p.rect.y0 s p.rect.x0 p.rect.x1 c) (halvings : Halvings (partition_of found) p.rect.y0 s p.rect.x0 p.rect.x1 h) where
      abbrev near : Piece
      near = record { rect = columns_to p.rect c; word = word_at found s }

      abbrev far : Piece
      far = record { rect = columns_right p.rect c; word = word_at found (other s) }

      one_row : rows_of p.rect ≡ 1
      one_row = rows_of-one p.rect flat

      size_is : size (place_of p.word) ≡ suc (size (place_of near.word) + size (place_of far.word))
      size_is = rw (place_below p.word below) (size-sides level size p.word s _ _ sized.sizes (child_is level p.word found s sized.tree is) (child_is level p.word found (other s) sized.tree is))

      few : h ≤ 15
      few = Halvings-most (partition_of found) p.rect.y0 s p.rect.x0 p.rect.x1 h 15 halvings (near_halvings p.rect.x0 p.rect.x1 (area_from_rect p.rect held.good.0.valid).near)

      potential-row : potential size near + potential size far + (2 + h) ≤ potential size p
      potential-row = rw (one_row, size_is) (potential_row _ _ h few)

      pub less-row : measure size (record { rect = columns_right p.rect c; word = word_at found (other s) } ∷ (record { rect = columns_to p.rect c; word = word_at found s } ∷ rest)) < measure size (p ∷ rest)
      less-row = measure_apart _ _ _ (2 + h) _ _ (omega arith) potential-row

      row_work : (w1 d1 w2 d2 : ℕ) → Work level near.rect (place_of near.word) w1 d1 → Work level far.rect (place_of far.word) w2 d2 → Work level p.rect (place_of p.word) (w1 + w2 + (2 + h)) (max (d2 + 1) d1)
      row_work w1 d1 w2 d2 work1 work2 =
          rw (place_below p.word below) (subst (λ w. Work level p.rect (node p.word) w (max (d2 + 1) d1)) (row_tests w1 w2 h) (in_row p.rect p.word (partition_of found) s c _ _ h w1 d1 w2 d2 at_node cut flat left last halvings (child_is level p.word found s sized.tree is) (child_is level p.word found (other s) sized.tree is) work1 work2))

      pub Held-row : Held level size rect (record { rect = columns_right p.rect c; word = word_at found (other s) } ∷ (record { rect = columns_to p.rect c; word = word_at found s } ∷ rest)) counts (tests + (2 + h)) (max most (length rest + 2))
      Held-row =
          let line = partition_of found in
          let same = alike line p.rect (inl flat) in
          held_apart near far (2 + h)
          (good-left level size sized p held.good.0 found below is s c last.from last.below (near_side line p.rect s c same left last))
          (good-right level size sized p held.good.0 found below is (other s) c last.from last.below (far_side line p.rect s c same last))
          row_work
          potential-row
          (area-columns p.rect c last.from last.below)
          (λ sector s'. plain-columns sector s' p.rect c last.from last.below)

  -- a piece that has come to an ssector
  module _ (p : Piece) (rest : List Piece) (counts : List ℕ) (tests most : ℕ) (k : ℕ) (above : 32768 ≤ p.word) (sector_is : sector_of level (p.word - 32768) ≡ Some k) (held : Held level size rect (p ∷ rest) counts tests most) where
    pub Held-leaf : k < length counts → Held level size rect rest (set counts k (get_or counts k 0 + area p)) tests most
    Held-leaf within_counts = record {
      good = held.good.1;
      owes = Owes-same level rect rest (tests + 0) tests (max most (1 + length rest)) most (omega arith) (leaf_owes tests most 1 (length rest) held.deep) (held.owes 0 1 (rw (ssector_place p.word above) (at_ssector p.rect (p.word - 32768))));
      deep = suc_le _ _ held.deep;
      shallow = held.shallow;
      budget = less_budget tests _ _ _ held.budget;
      added = added_leaf _ _ _ _ _ _ (sum_by-set (λ x. x) counts k (get_or counts k 0 + area p) 0 within_counts) held.added;
      counted = λ sector are s. counted-leaf level size sized p held.good.0 k above sector_is sector are counts s _ _ within_counts (held.counted sector are s);
    }
