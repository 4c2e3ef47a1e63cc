-- Each rectangle at the root of a sound level has its work.
use Rattle.std.proofs.Common.{ℕ, zero, suc, ◌+◌, ◌-◌, ◌<◌, ◌≤◌, max, ℤ, pos, ◌+ℤ◌, ◌-ℤ◌, ◌≤ℤ◌, ◌<ℤ◌, ◌≡◌, ◌⊎◌, inl, inr, refl, sym, ◌∙◌, Some, arith}
use Rattle.std.proofs.lemmas.Bool.{cases_lt}
use Rattle.std.proofs.lemmas.Int.{ints, by_lt_z}
use Rattle.std.specs.Int.Signed.{shr_z}
use Rattle.std.specs.List.{slice_get}
use Rattle.le_rec.specs.declared.records.Node.{Node}
use Rattle.map_geo.specs.declared.sides.Side.{Side}
use Rattle.map_geo.specs.Partition.{Partition, partition_of}
use Rattle.map_geo.specs.Point.{point_at}
use Rattle.map_geo.specs.Rect.{Rect, IsRect, IsWholeSide, span}
use Rattle.map_geo.specs.Side.{other, side_of}
use Rattle.map_geo.proofs.AlongLemmas.{sides_by_corners}
use Rattle.map_level.specs.Level.{Level}
use Rattle.map_tree.specs.declared.pieces.Piece.{Piece}
use Rattle.map_tree.specs.Child.{node_count, place_of, root, word_at}
use Rattle.map_tree.specs.Cuts.{Halvings, IsCut, IsLast, IsMiddle, IsMiddleRow, columns_right, columns_to, rows_above, rows_to}
use Rattle.map_tree.specs.Paths.{Place}
use Rattle.map_tree.specs.Sound.{IsSound}
use Rattle.map_tree.specs.Work.{Work, at_ssector, by_rows, in_row, to_child}
use Rattle.map_tree.proofs.BoundLemmas.{IsArea}
use Rattle.map_tree.proofs.DescentLemmas.{place_below}
use Rattle.map_tree.proofs.FewLemmas.{IsSized, area_from_rect, sized-from_sound}
use Rattle.map_tree.proofs.LeafLemmas.{child_is}
use Rattle.map_tree.proofs.MiddleLemmas.{half_of}
use Rattle.map_tree.proofs.PieceLemmas.{IsGood, good-down, good-high, good-left, good-low, good-right, good-start, is_word, partition_is, potential, potential-columns, potential-down, potential-rows, some_and}
use Rattle.map_tree.proofs.PlaceLemmas.{ssector_place}
use Rattle.map_tree.proofs.RowLemmas.{Searched, Searched-halvings, Searched-last, Searched-left, Searched-right, Searched-start, alike, ends_differ, ends_ordered, far_side, near_side, other_differs, same_or_other}
use Rattle.map_tree.proofs.Sizes.{size_of}
use Rattle.map_tree.proofs.SoundLemmas.{few_nodes, root_alone, root_node, zero_or_suc}

-- a row whose ends have both sides has a last column with the left one's, which halvings find
module _ (line : Partition) (y : ℤ) (s : Side) (x0 x1 : ℤ) where
  abbrev Found : Type 0
  Found = (c : ℤ) × (h : ℕ) × IsLast line y s x0 x1 c × Halvings line y s x0 x1 h

  found : (l e : ℤ) (h : ℕ) → Searched line y s x0 x1 l e h → e ≤ℤ (l +ℤ pos 1) → Found
  found l e h so_far near = (l, h, Searched-last line y s x0 x1 l e h so_far near, Searched-halvings line y s x0 x1 l e h so_far near)

  halved_right : (l e m : ℤ) (more : ℕ) → (l +ℤ pos 1) <ℤ e → IsMiddle m l e → e ≤ℤ (l +ℤ pos (suc (suc more))) → e ≤ℤ (m +ℤ pos (suc more))
  halved_right l e m more apart middle far = omega (arith, ints, middle.upper)

  halved_left : (l e m : ℤ) (more : ℕ) → (l +ℤ pos 1) <ℤ e → IsMiddle m l e → e ≤ℤ (l +ℤ pos (suc (suc more))) → m ≤ℤ (l +ℤ pos (suc more))
  halved_left l e m more apart middle far = omega (arith, ints, middle.lower)

  search_on : (more : ℕ) (l e : ℤ) (h : ℕ) → Searched line y s x0 x1 l e h → e ≤ℤ (l +ℤ pos (suc more)) → Found
  search_on zero l e h so_far far = found l e h so_far far
  search_on (suc more) l e h so_far far = by_lt_z (l +ℤ pos 1) e
      (λ apart.
      let m = shr_z (l +ℤ e) 2 in
      let middle : IsMiddle m l e = half_of l e (l +ℤ e) refl in
      elim (same_or_other (side_of line (point_at m y)) s) [
        | inl has ↦ search_on more m e (h + 1) (Searched-right line y s x0 x1 l e m h so_far apart middle has) (halved_right l e m more apart middle far)
        | inr has_not ↦ search_on more l m (h + 1) (Searched-left line y s x0 x1 l e m h so_far apart middle has_not) (halved_left l e m more apart middle far)
      ])
      (λ near. found l e h so_far near)

-- all points of a rectangle lie on one side of a partition, or it is cut
module _ (line : Partition) (b : Rect) (area : IsArea b) where
  to_itself : (z : ℤ) → z ≤ℤ z
  to_itself z = omega (arith, ints)

  on_corner : (x y : ℤ) → b.x0 ≤ℤ x → x ≤ℤ b.x1 → b.y0 ≤ℤ y → y ≤ℤ b.y1 → (s : Side) → IsWholeSide b line s → side_of line (point_at x y) ≡ s
  on_corner x y left right low high s on = on (point_at x y) (record { left = left; right = right; lowest = low; highest = high })

  abbrev first_side : Side
  first_side = side_of line (point_at b.x0 b.y0)

  -- a corner with the other side than the first
  cut_at : (x y : ℤ) → b.x0 ≤ℤ x → x ≤ℤ b.x1 → b.y0 ≤ℤ y → y ≤ℤ b.y1 → side_of line (point_at x y) ≡ other first_side → IsCut b line
  cut_at x y left right low high differs s on =
      let here = on_corner b.x0 b.y0 (to_itself b.x0) area.columns (to_itself b.y0) area.rows s on in
      other_differs _ _ differs (on_corner x y left right low high s on ∙ sym here)

  pub whole_or_cut : ((s : Side) × IsWholeSide b line s) ⊎ IsCut b line
  whole_or_cut = elim (same_or_other (side_of line (point_at b.x1 b.y0)) first_side) [
    | inr differs ↦ inr (cut_at b.x1 b.y0 area.columns (to_itself b.x1) (to_itself b.y0) area.rows differs)
    | inl low_right ↦ elim (same_or_other (side_of line (point_at b.x0 b.y1)) first_side) [
      | inr differs ↦ inr (cut_at b.x0 b.y1 (to_itself b.x0) area.columns area.rows (to_itself b.y1) differs)
      | inl high_left ↦ elim (same_or_other (side_of line (point_at b.x1 b.y1)) first_side) [
        | inr differs ↦ inr (cut_at b.x1 b.y1 area.columns (to_itself b.x1) area.rows (to_itself b.y1) differs)
        | inl high_right ↦ inl (first_side, sides_by_corners b line first_side (record { low_left = refl; low_right = low_right; high_left = high_left; high_right = high_right }))
      ]
    ]
  ]

-- the last of the lowest half of two rows or more
middle_row : (b : Rect) (m : ℤ) → b.y0 <ℤ b.y1 → IsMiddle m (span b.y0 b.y1) (pos 0) → IsMiddleRow b ((b.y0 +ℤ m) -ℤ pos 1)
middle_row b m more middle = record {
  more = more;
  middle = record { lower = omega (arith, ints, middle.lower); upper = omega (arith, ints, middle.upper) };
}

flat_row : (a b : ℤ) → a ≤ℤ b → b ≤ℤ a → a ≡ b
flat_row a b h k = omega (arith, ints)

columns_apart : (l e : ℤ) → e ≤ℤ (l +ℤ pos 32768) → e ≤ℤ (l +ℤ pos (suc 32767))
columns_apart l e near = omega (arith, ints)

none_left : (a b : ℕ) → suc a ≤ b → b ≤ 0 → ⊥
none_left a b h k = omega arith

one_less : (a b more : ℕ) → suc a ≤ b → b ≤ suc more → a ≤ more
one_less a b more h k = omega arith

first_less : (a c b : ℕ) → a + c + 1 ≤ b → suc a ≤ b
first_less a c b h = omega arith

second_less : (a c b : ℕ) → a + c + 1 ≤ b → suc c ≤ b
second_less a c b h = omega arith

module _ (level : Level) (size : Place → ℕ) (sized : IsSized level size) where
  abbrev HasWork : Piece → Type 0
  HasWork p = (w : ℕ) × (d : ℕ) × Work level p.rect (place_of p.word) w d

  -- a piece at a node has its work where those that it becomes have theirs
  module _ (p : Piece) (good : IsGood level p) (below : p.word < 32768) (at : Node) (is : slice_get level.nodes.records p.word ≡ Some at) where
    abbrev line : Partition
    line = partition_of at

    down_work : (s : Side) → IsWholeSide p.rect line s → HasWork (record { rect = p.rect; word = word_at at s }) → HasWork p
    down_work s on work =
        (suc work.0, work.1, rw (place_below p.word below) (to_child p.rect p.word line s _ work.0 work.1 (partition_is level p.word at is) on (child_is level p.word at s sized.tree is) work.2))

    rows_work : IsCut p.rect line → (y : ℤ) → IsMiddleRow p.rect y → HasWork (record { rect = rows_to p.rect y; word = p.word }) → HasWork (record { rect = rows_above p.rect y; word = p.word }) → HasWork p
    rows_work cut y middle low high =
        (low.0 + high.0 + 1, max (high.1 + 1) low.1, rw (place_below p.word below) (by_rows p.rect p.word line y low.0 low.1 high.0 high.1 (partition_is level p.word at is) cut middle (rw (place_below p.word below) at low.2) (rw (place_below p.word below) at high.2)))

    row_work : IsCut p.rect line → p.rect.y0 ≡ p.rect.y1 → (s : Side) → side_of line (point_at p.rect.x0 p.rect.y0) ≡ s → (row : Found line p.rect.y0 s p.rect.x0 p.rect.x1)
        → HasWork (record { rect = columns_to p.rect row.0; word = word_at at s }) → HasWork (record { rect = columns_right p.rect row.0; word = word_at at (other s) }) → HasWork p
    row_work cut flat s has row near far =
        (near.0 + far.0 + 1 + (1 + row.1), max (far.1 + 1) near.1, rw (place_below p.word below) (in_row p.rect p.word line s row.0 _ _ row.1 near.0 near.1 far.0 far.1 (partition_is level p.word at is) cut flat has row.2 row.3 (child_is level p.word at s sized.tree is) (child_is level p.word at (other s) sized.tree is) near.2 far.2))

    -- where each piece with less left to do has its work, so has this
    module _ (less : (q : Piece) → IsGood level q → suc (potential size q) ≤ potential size p → HasWork q) where
      apart_work : IsCut p.rect line → HasWork p
      apart_work cut = by_lt_z p.rect.y0 p.rect.y1
          (λ more.
          let y = (p.rect.y0 +ℤ shr_z (span p.rect.y0 p.rect.y1 +ℤ pos 0) 2) -ℤ pos 1 in
          let middle : IsMiddleRow p.rect y = middle_row p.rect _ more (half_of (span p.rect.y0 p.rect.y1) (pos 0) _ refl) in
          let fewer = potential-rows level size sized p good at below is y middle in
          rows_work cut y middle (less _ (good-low level size sized p good y middle) (first_less _ _ _ fewer)) (less _ (good-high level size sized p good y middle) (second_less _ _ _ fewer)))
          (λ not_more.
          let flat = flat_row p.rect.y0 p.rect.y1 good.valid.rows.ordered not_more in
          let same = alike line p.rect (inl flat) in
          let s = side_of line (point_at p.rect.x0 p.rect.y0) in
          let right = ends_differ line p.rect same cut in
          let ordered = ends_ordered line p.rect good.valid.columns.ordered same cut in
          let row = search_on line p.rect.y0 s p.rect.x0 p.rect.x1 32767 p.rect.x0 p.rect.x1 0 (Searched-start line p.rect.y0 s p.rect.x0 p.rect.x1 ordered refl right) (area_from_rect p.rect good.valid).near in
          let last = row.2 in
          let near = near_side line p.rect s row.0 same refl last in
          let far = far_side line p.rect s row.0 same last in
          let fewer = potential-columns level size sized p good at below is s row.0 in
          row_work cut flat s refl row
          (less _ (good-left level size sized p good at below is s row.0 last.from last.below near) (first_less _ _ _ fewer))
          (less _ (good-right level size sized p good at below is (other s) row.0 last.from last.below far) (second_less _ _ _ fewer)))

      node_work : HasWork p
      node_work = elim (whole_or_cut line p.rect (area_from_rect p.rect good.valid)) [
        | inl whole ↦ down_work whole.0 whole.1 (less _ (good-down level size sized p good at below is whole.0 whole.1) (potential-down level size sized p good at below is whole.0))
        | inr cut ↦ apart_work cut
      ]

  step_work : (p : Piece) → IsGood level p → ((q : Piece) → IsGood level q → suc (potential size q) ≤ potential size p → HasWork q) → HasWork p
  step_work p good less = elim (cases_lt p.word 32768) [
    | inl below ↦
        let at = some_and (slice_get level.nodes.records p.word) _ (is_word level size sized p good below) in
        node_work p good below at.0 at.1 less
    | inr above ↦ (0, 1, rw (ssector_place p.word above) (at_ssector p.rect (p.word - 32768)))
  ]

  some_work : (fuel : ℕ) (p : Piece) → IsGood level p → potential size p ≤ fuel → HasWork p
  some_work zero p good enough = step_work p good (λ q good_q less. absurd (none_left _ _ less enough))
  some_work (suc fuel) p good enough = step_work p good (λ q good_q less. some_work fuel q good_q (one_less _ _ _ less enough))

itself_least : (n : ℕ) → n ≤ n
itself_least n = omega arith

-- the root has a word
root_has_word : (level : Level) → IsSound level → (word : ℕ) × (place_of word ≡ root level)
root_has_word level sound = elim (zero_or_suc (node_count level)) [
  | inl none ↦ (32768, sym (root_alone level none))
  | inr more ↦ (more.0, place_below more.0 (omega (arith, more.1, few_nodes level sound)) ∙ sym (root_node level more.0 more.1))
]

pub root_work : (level : Level) (rect : Rect) → IsSound level → IsRect rect → (w : ℕ) × (d : ℕ) × Work level rect (root level) w d
root_work level rect sound valid =
    let sized = sized-from_sound level sound in
    let word = root_has_word level sound in
    let piece : Piece = record { rect = rect; word = word.0 } in
    let work = some_work level (size_of level) sized _ piece (good-start level (size_of level) sized rect piece refl word.1 valid) (itself_least _) in
    (work.0, work.1, rw (← word.1) work.2)
