-- Pieces of a rectangle that have come to places of a level: which they may be, what is left to do for them, and how they are parted.
use Rattle.std.proofs.Common.{ℕ, suc, ◌+◌, ◌*◌, ◌-◌, ◌<◌, ◌≤◌, ℤ, pos, ◌+ℤ◌, ◌≤ℤ◌, ◌<ℤ◌, ◌≡◌, inl, inr, sym, ap, ◌∙◌, subst, List, [], ◌∷◌, ◌++◌, reverse, length, get_or, set, get_or-set_other, Fits, w16, w32, Option, Some, None, IsTrue, refl, arith}
use Rattle.std.specs.Prelude.{IsSomeAnd}
use Rattle.std.specs.Option.{option_map}
use Rattle.std.specs.List.{sum, slice_get}
use Rattle.std.proofs.Math.Facts.{Fits-lt-pow}
use Rattle.std.proofs.lemmas.Bool.{cases_eq, ltb-true}
use Rattle.std.proofs.lemmas.Grind.{get_or-set_at}
use Rattle.std.proofs.lemmas.Int.{ints}
use Rattle.std.proofs.lemmas.List.{reverse-append}
use Rattle.std.proofs.lemmas.List.Sums.{get_or-le-sum_by}
use Rattle.le_rec.specs.declared.records.Node.{Node}
use Rattle.map_geo.specs.declared.sides.Side.{Side}
use Rattle.map_geo.specs.Point.{Point}
use Rattle.map_geo.specs.Partition.{partition_of}
use Rattle.map_geo.specs.Side.{other, side_of}
use Rattle.map_geo.specs.Rect.{Rect, Holds, IsRect, IsWholeSide, rows_of, columns_of, point_count}
use Rattle.map_geo.proofs.PointCountLemmas.{few_points}
use Rattle.map_geo.proofs.CutLemmas.{IsRect-rows_to, IsRect-rows_from, IsRect-columns_to, IsRect-columns_from}
use Rattle.map_level.specs.Level.{Level}
use Rattle.map_level.specs.SectorOf.{sector_of}
use Rattle.map_tree.specs.declared.pieces.Piece.{Piece}
use Rattle.map_tree.specs.Paths.{Place, node}
use Rattle.map_tree.specs.Child.{node_count, ssector_count, place_of, word_at, has, side_at, root}
use Rattle.map_tree.specs.Cuts.{IsMiddleRow, rows_to, rows_above, columns_to, columns_right}
use Rattle.map_tree.specs.PlainCount.{TellsSectors, one_at, plain_count}
use Rattle.map_tree.specs.SectorList.{ListsSectors}
use Rattle.map_tree.specs.Sound.{IsTree}
use Rattle.map_tree.specs.Steps.{IsWord}
use Rattle.map_tree.specs.Work.{partition_at}
use Rattle.map_tree.proofs.BoundLemmas.{node_in, IsArea-rows_to, IsArea-rows_above, rows_of-rows, rows_of-pos, most_tests, most_tests-whole, most_tests-rows, size-sides}
use Rattle.map_tree.proofs.CountLemmas.{one_at-same, one_at-other, plain-full, area-some}
use Rattle.map_tree.proofs.DescentLemmas.{place_below}
use Rattle.map_tree.proofs.FewLemmas.{IsSized, area_from_rect}
use Rattle.map_tree.proofs.LeafLemmas.{child_is}
use Rattle.map_tree.proofs.MiddleLemmas.{next_to}
use Rattle.map_tree.proofs.PlaceLemmas.{ssector_place}
use Rattle.map_tree.proofs.SectorListLemmas.{listed_sector}
use Rattle.map_tree.proofs.SizeLemmas.{leaf-from_falls}
use Rattle.map_tree.proofs.Sizes.{Falls, there, down}
use Rattle.map_tree.proofs.SoundLemmas.{child_there, root_there, some_ssector}

abbrev pub total : (Piece → ℕ) → List Piece → ℕ
total f [] = 0
total f (p ∷ ps) = f p + total f ps

abbrev pub Each : (Piece → Type 0) → List Piece → Type 0
Each P [] = Unit {0}
Each P (p ∷ ps) = P p × Each P ps

abbrev pub potential : (Place → ℕ) → Piece → ℕ
potential size p = most_tests (rows_of p.rect) (size (place_of p.word))

abbrev pub area : Piece → ℕ
area p = point_count p.rect

abbrev pub plain : (Point → ℕ) → ℕ → Piece → ℕ
plain sector s p = plain_count sector s p.rect

-- a piece that may be pending: the points of it fall from the root to where they fall from its place
pub record IsGood (level : Level) (p : Piece) : Type 0 where
  pub valid : IsRect p.rect
  pub is_there : IsTrue (has level (place_of p.word))
  pub reach : (point : Point) → Holds p.rect point → (t : ℕ) → Falls level point (place_of p.word) t → Falls level point (root level) t

-- what is left to do for the pending pieces
abbrev pub measure : (Place → ℕ) → List Piece → ℕ
measure size stack = 2 * total (potential size) stack + length stack

pub measure_down : (a b r k : ℕ) → suc b ≤ a → 2 * (b + r) + suc k < 2 * (a + r) + suc k
measure_down a b r k h = omega arith

pub measure_apart : (a b c more r k : ℕ) → 1 ≤ more → b + c + more ≤ a → 2 * (c + (b + r)) + suc (suc k) < 2 * (a + r) + suc k
measure_apart a b c more r k some h = omega arith

measure_leaf : (a r k : ℕ) → 2 * r + k < 2 * (a + r) + suc k
measure_leaf a r k = omega arith

-- a piece that is counted leaves less to do
pub less-leaf : (size : Place → ℕ) (p : Piece) (rest : List Piece) → measure size rest < measure size (p ∷ rest)
less-leaf size p rest = measure_leaf _ _ _

reverse_push : (ps : List Piece) (p : Piece) → reverse (ps ++ (p ∷ [])) ≡ p ∷ reverse ps
reverse_push ps p = reverse-append ps (p ∷ [])

-- a list after a push, the newest first
pub pushed : (before after : List Piece) (p : Piece) → after ≡ before ++ (p ∷ []) → reverse after ≡ p ∷ reverse before
pushed before after p e = rw e (reverse_push before p)

-- what an option holds
pub some_and : {A : Type 0} (o : Option A) (P : A → Type 0) → IsSomeAnd o P → (x : A) × (o ≡ Some x) × P x
some_and None P h = elim h [ ]
some_and (Some x) P h = (x, refl, h)

-- what a node's record says
pub partition_is : (level : Level) (n : ℕ) (found : Node) → slice_get level.nodes.records n ≡ Some found → partition_at level n ≡ Some (partition_of found)
partition_is level n found is = ap (λ (o : Option Node). option_map partition_of o) is

side_is : (level : Level) (n : ℕ) (found : Node) (point : Point) → slice_get level.nodes.records n ≡ Some found → side_at level n point ≡ Some (side_of (partition_of found) point)
side_is level n found point is = ap (λ (o : Option Node). option_map (λ f. side_of (partition_of f) point) o) is

Falls-down : (level : Level) (n : ℕ) (found : Node) (point : Point) (s : Side) (t : ℕ) → IsTree level → slice_get level.nodes.records n ≡ Some found → side_of (partition_of found) point ≡ s → Falls level point (place_of (word_at found s)) t → Falls level point (node n) t
Falls-down level n found point s t tree is on falls =
    down n s (place_of (word_at found s)) t (side_is level n found point is ∙ ap Some on) (child_is level n found s tree is) falls

pub middle_from : (b : Rect) (y : ℤ) → IsMiddleRow b y → b.y0 ≤ℤ y
middle_from b y m = omega (arith, ints, m.more, m.middle.upper)

pub middle_below : (b : Rect) (y : ℤ) → IsMiddleRow b y → y <ℤ b.y1
middle_below b y m = omega (arith, ints, m.more, m.middle.lower)

le_from_lt : (y b : ℤ) → y <ℤ b → y ≤ℤ b
le_from_lt y b h = omega (arith, ints)

next_above : (a y b : ℤ) → a ≤ℤ y → y <ℤ b → a ≤ℤ (y +ℤ pos 1)
next_above a y b h k = omega (arith, ints)

below_to : (z y b : ℤ) → z ≤ℤ y → y <ℤ b → z ≤ℤ b
below_to z y b h k = omega (arith, ints)

above_from : (a y z : ℤ) → a ≤ℤ y → (y +ℤ pos 1) ≤ℤ z → a ≤ℤ z
above_from a y z h k = omega (arith, ints)

-- what a cut lets through is the whole's
module _ (b : Rect) (z : ℤ) (point : Point) where
  low_holds : z <ℤ b.y1 → Holds (rows_to b z) point → Holds b point
  low_holds below inside = record { left = inside.left; right = inside.right; lowest = inside.lowest; highest = below_to point.y z b.y1 inside.highest below }

  high_holds : b.y0 ≤ℤ z → Holds (rows_above b z) point → Holds b point
  high_holds from inside = record { left = inside.left; right = inside.right; lowest = above_from b.y0 z point.y from inside.lowest; highest = inside.highest }

  left_holds : z <ℤ b.x1 → Holds (columns_to b z) point → Holds b point
  left_holds below inside = record { left = inside.left; right = below_to point.x z b.x1 inside.right below; lowest = inside.lowest; highest = inside.highest }

  right_holds : b.x0 ≤ℤ z → Holds (columns_right b z) point → Holds b point
  right_holds from inside = record { left = above_from b.x0 z point.x from inside.left; right = inside.right; lowest = inside.lowest; highest = inside.highest }

counted_same : (now was a height width one r n : ℕ) → now ≡ was + height * width → one ≡ 1 → a ≡ height * (width * one) → was + (a + r) ≡ n → now + r ≡ n
counted_same now was a height width one r n h1 h2 h3 h4 = let e = rw h2 at h3 in omega arith

counted_other : (now was a height width one r n : ℕ) → now ≡ was → one ≡ 0 → a ≡ height * (width * one) → was + (a + r) ≡ n → now + r ≡ n
counted_other now was a height width one r n h1 h2 h3 h4 = let e = rw h2 at h3 in omega arith

counted_leaf : (counts : List ℕ) (s k height width a r n : ℕ) → k < length counts → a ≡ height * (width * one_at s k) → get_or counts s 0 + (a + r) ≡ n → get_or (set counts k (get_or counts k 0 + height * width)) s 0 + r ≡ n
counted_leaf counts s k height width a r n within_counts full h = elim (cases_eq s k) [
  | inl e ↦ counted_same _ (get_or counts s 0) a height width (one_at s k) r n (get_or-set_at counts k s _ 0 e within_counts ∙ ap (λ j. get_or counts j 0 + height * width) (sym e)) (one_at-same s k e) full h
  | inr e ↦ counted_other _ (get_or counts s 0) a height width (one_at s k) r n (get_or-set_other counts k s _ 0 e) (one_at-other s k e) full h
]

pub added_apart : (t a b c r n : ℕ) → a ≡ b + c → t + (a + r) ≡ n → t + (c + (b + r)) ≡ n
added_apart t a b c r n h k = omega arith

pub added_leaf : (new old was a r n : ℕ) → new + was ≡ old + (was + a) → old + (a + r) ≡ n → new + r ≡ n
added_leaf new old was a r n h k = omega arith

fits_count : (count all stack whole more : ℕ) → count ≤ all → all + (more + stack) ≡ whole → whole ≤ 1048576 → Fits w32 (count + more)
fits_count count all stack whole more h k j = omega arith

-- both parts of a piece that is cut at a column have children of its own node to go to
potential_columns : (k a b : ℕ) → 0 < k → most_tests k a + most_tests k b + 1 ≤ most_tests k (suc (a + b))
potential_columns k a b some = omega arith

module _ (level : Level) (size : Place → ℕ) (sized : IsSized level size) where
  pub length-area : (ps : List Piece) → Each (IsGood level) ps → length ps ≤ total area ps
  length-area [] good = omega arith
  length-area (q ∷ ps) good = omega (arith, area-some q.rect (area_from_rect q.rect good.0.valid), length-area ps good.1)

  pub good-start : (rect : Rect) (p : Piece) → p.rect ≡ rect → place_of p.word ≡ root level → IsRect rect → IsGood level p
  good-start rect p same at_root valid = record {
    valid = rw same valid;
    is_there = rw at_root (root_there level (some_ssector level sized.sound));
    reach = λ point inside t falls. rw at_root at falls;
  }

  module _ (p : Piece) (good : IsGood level p) where
    pub node_there : p.word < 32768 → p.word < node_count level
    node_there below = ltb-true p.word (node_count level) (subst (λ q. IsTrue (has level q)) (place_below p.word below) good.is_there)

    pub is_word : IsWord level.nodes.records p.word
    is_word = λ below. sized.tree.origins p.word (node_there below)

    pub ssector_in : 32768 ≤ p.word → p.word - 32768 < ssector_count level
    ssector_in above = ltb-true (p.word - 32768) (ssector_count level) (subst (λ q. IsTrue (has level q)) (ssector_place p.word above) good.is_there)

    -- the sector of the ssector, as listed, has its number in the counts
    pub sector_in : (start counts sectors : List ℕ) (t k : ℕ) → ((u s : ℕ) → sector_of level u ≡ Some s → s < 65536 → s < length start) → length counts ≡ length start
        → ListsSectors level sectors → ((u : ℕ) → Fits w16 (get_or sectors u 0)) → 32768 ≤ p.word → t ≡ p.word - 32768 → k ≡ get_or sectors t 0
        → (sector_of level (p.word - 32768) ≡ Some k) × (k < length counts)
    sector_in start counts sectors t k within long lists fit above t_is at =
        let sector_is = listed_sector level sectors (p.word - 32768) 0 k lists (ssector_in above) (at ∙ ap (λ n. get_or sectors n 0) t_is) in
        let small : k < 65536 = rw at (Fits-lt-pow (fit t)) in
        (sector_is, rw long (within _ k sector_is small))

    pub some_points : (more : ℕ) → more ≡ area p → 0 < more
    some_points more more_is = omega (arith, more_is, area-some p.rect (area_from_rect p.rect good.valid))

    pub leaf_fits : (rect : Rect) (counts : List ℕ) (rest k more : ℕ) → IsRect rect → sum counts + (area p + rest) ≡ point_count rect → k < length counts → more ≡ area p → Fits w32 (get_or counts k 0 + more)
    leaf_fits rect counts rest k more valid added within_counts more_is =
        rw more_is (fits_count (get_or counts k 0) (sum counts) _ _ (area p) (get_or-le-sum_by (λ x. x) counts k 0 within_counts) added (few_points rect valid))

    -- at an ssector each point has its sector, whose number it joins
    module _ (k : ℕ) (above : 32768 ≤ p.word) (sector_is : sector_of level (p.word - 32768) ≡ Some k) where
      all_there : (sector : Point → ℕ) → TellsSectors level sector → (point : Point) → Holds p.rect point → sector point ≡ k
      all_there sector tells point inside =
          let at = p.word - 32768 in
          let falls = good.reach point inside at (rw (ssector_place p.word above) (there at)) in
          let told = tells point at (leaf-from_falls level point at sized.sound falls) in
          let same : Some (sector point) ≡ Some k = sym told ∙ sector_is in
          cc

      pub counted-leaf : (sector : Point → ℕ) → TellsSectors level sector → (counts : List ℕ) (s r n : ℕ) → k < length counts → get_or counts s 0 + (plain sector s p + r) ≡ n
          → get_or (set counts k (get_or counts k 0 + area p)) s 0 + r ≡ n
      counted-leaf sector tells counts s r n within_counts h =
          counted_leaf counts s k (rows_of p.rect) (columns_of p.rect) (plain sector s p) r n within_counts (plain-full sector s p.rect k (area_from_rect p.rect good.valid) (all_there sector tells)) h

    -- the lower and the upper rows, where the piece is
    module _ (y : ℤ) (middle : IsMiddleRow p.rect y) where
      pub good-low : IsGood level (record { rect = rows_to p.rect y; word = p.word })
      good-low =
          let less = middle_below p.rect y middle in
          record {
            valid = IsRect-rows_to p.rect good.valid y (middle_from p.rect y middle) (le_from_lt y p.rect.y1 less);
            is_there = good.is_there;
            reach = λ point inside t falls. good.reach point (low_holds p.rect y point less inside) t falls;
          }

      pub good-high : IsGood level (record { rect = rows_above p.rect y; word = p.word })
      good-high =
          let from = middle_from p.rect y middle in
          let less = middle_below p.rect y middle in
          record {
            valid = IsRect-rows_from p.rect good.valid (y +ℤ pos 1) (next_above p.rect.y0 y p.rect.y1 from less) (next_to y p.rect.y1 less);
            is_there = good.is_there;
            reach = λ point inside t falls. good.reach point (high_holds p.rect y point from inside) t falls;
          }

    module _ (found : Node) (below : p.word < 32768) (is : slice_get level.nodes.records p.word ≡ Some found) where
      pub in_nodes : p.word < node_count level
      in_nodes = node_in level p.word (partition_of found) (partition_is level p.word found is)

      pub size_less : (s : Side) → size (place_of (word_at found s)) < size (place_of p.word)
      size_less s = rw (place_below p.word below) (sized.sizes.at_child p.word s _ (child_is level p.word found s sized.tree is))

      pub potential-down : (s : Side) → suc (potential size (record { rect = p.rect; word = word_at found s })) ≤ potential size p
      potential-down s = most_tests-whole (rows_of p.rect) _ _ _ (rows_of-pos p.rect (area_from_rect p.rect good.valid)) (size_less s) (omega arith)

      pub potential-rows : (y : ℤ) → IsMiddleRow p.rect y → potential size (record { rect = rows_to p.rect y; word = p.word }) + potential size (record { rect = rows_above p.rect y; word = p.word }) + 1 ≤ potential size p
      potential-rows y middle =
          let whole_area = area_from_rect p.rect good.valid in
          rw (rows_of-rows p.rect y whole_area middle) (most_tests-rows (rows_of (rows_to p.rect y)) (rows_of (rows_above p.rect y)) (size (place_of p.word)) _ _ (rw (place_below p.word below) (sized.sizes.some p.word in_nodes)) (rows_of-pos (rows_to p.rect y) (IsArea-rows_to p.rect y whole_area middle)) (rows_of-pos (rows_above p.rect y) (IsArea-rows_above p.rect y whole_area middle)) (omega arith) (omega arith))

      pub potential-columns : (s : Side) (c : ℤ) → potential size (record { rect = columns_to p.rect c; word = word_at found s }) + potential size (record { rect = columns_right p.rect c; word = word_at found (other s) }) + 1 ≤ potential size p
      potential-columns s c =
          let both = size-sides level size p.word s _ _ sized.sizes (child_is level p.word found s sized.tree is) (child_is level p.word found (other s) sized.tree is) in
          rw (place_below p.word below, both) (potential_columns (rows_of p.rect) _ _ (rows_of-pos p.rect (area_from_rect p.rect good.valid)))

      -- what has all its points on one side goes to that side's child
      good-child : (b : Rect) (s : Side) → IsRect b → ((point : Point) → Holds b point → Holds p.rect point) → IsWholeSide b (partition_of found) s → IsGood level (record { rect = b; word = word_at found s })
      good-child b s valid holds on = record {
        valid = valid;
        is_there = child_there level p.word s _ (child_is level p.word found s sized.tree is);
        reach = λ point inside t falls. good.reach point (holds point inside) t (rw (place_below p.word below) (Falls-down level p.word found point s t sized.tree is (on point inside) falls));
      }

      pub good-down : (s : Side) → IsWholeSide p.rect (partition_of found) s → IsGood level (record { rect = p.rect; word = word_at found s })
      good-down s on = good-child p.rect s good.valid (λ point inside. inside) on

      pub good-left : (s : Side) (c : ℤ) → p.rect.x0 ≤ℤ c → c <ℤ p.rect.x1 → IsWholeSide (columns_to p.rect c) (partition_of found) s → IsGood level (record { rect = columns_to p.rect c; word = word_at found s })
      good-left s c from less on =
          good-child (columns_to p.rect c) s (IsRect-columns_to p.rect good.valid c from (le_from_lt c p.rect.x1 less)) (λ point inside. left_holds p.rect c point less inside) on

      pub good-right : (s : Side) (c : ℤ) → p.rect.x0 ≤ℤ c → c <ℤ p.rect.x1 → IsWholeSide (columns_right p.rect c) (partition_of found) s → IsGood level (record { rect = columns_right p.rect c; word = word_at found s })
      good-right s c from less on =
          good-child (columns_right p.rect c) s (IsRect-columns_from p.rect good.valid (c +ℤ pos 1) (next_above p.rect.x0 c p.rect.x1 from less) (next_to c p.rect.x1 less)) (λ point inside. right_holds p.rect c point from inside) on
