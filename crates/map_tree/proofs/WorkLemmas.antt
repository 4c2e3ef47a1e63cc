-- A piece has one work.
use Rattle.std.proofs.Common.{ℕ, suc, ℤ, pos, ◌+ℤ◌, ◌≤ℤ◌, ◌<ℤ◌, ◌≡◌, refl, sym, ap, ◌∙◌, subst, Some, arith}
use Rattle.std.proofs.lemmas.Int.{ints, by_lt_z}
use Rattle.map_geo.specs.declared.sides.Side.{Side}
use Rattle.map_geo.specs.Partition.{Partition}
use Rattle.map_geo.specs.Side.{side_of, other}
use Rattle.map_geo.specs.Rect.{Rect, IsWholeSide}
use Rattle.map_geo.specs.Point.{point_at}
use Rattle.map_level.specs.Level.{Level}
use Rattle.map_tree.specs.Paths.{Place, node}
use Rattle.map_tree.specs.Child.{child}
use Rattle.map_tree.specs.Cuts.{Halvings, beside, in_right, in_left, IsMiddle, IsMiddleRow, IsLast, rows_to, rows_above, columns_to, columns_right}
use Rattle.map_tree.specs.Work.{partition_at, Work, at_ssector, to_child, by_rows, in_row}
use Rattle.map_tree.proofs.BoundLemmas.{IsArea, IsArea-rows_to, IsArea-rows_above, IsArea-columns_to, IsArea-columns_right}
use Rattle.map_tree.proofs.RowLemmas.{other_differs}

one_middle : (m k l e : ℤ) → IsMiddle m l e → IsMiddle k l e → m ≡ k
one_middle m k l e a b = omega (arith, ints, a.lower, a.upper, b.lower, b.upper)

one_row : (b : Rect) (y z : ℤ) → IsMiddleRow b y → IsMiddleRow b z → y ≡ z
one_row b y z a c = omega (arith, ints, a.middle.lower, a.middle.upper, c.middle.lower, c.middle.upper)

near_far : (l e : ℤ) → e ≡ l +ℤ pos 1 → (l +ℤ pos 1) <ℤ e → ⊥
near_far l e h k = omega (arith, ints)

pub Halvings-once : (line : Partition) (y : ℤ) (s : Side) (l e : ℤ) (b c : ℕ) → Halvings line y s l e b → Halvings line y s l e c → b ≡ c
Halvings-once line y s _ _ _ _ (beside l e same) (beside l' e' same') = refl
Halvings-once line y s _ _ _ _ (beside l e same) (in_right l' e' m b more middle has rest) = absurd (near_far l e same more)
Halvings-once line y s _ _ _ _ (beside l e same) (in_left l' e' m b more middle has rest) = absurd (near_far l e same more)
Halvings-once line y s _ _ _ _ (in_right l e m b more middle has rest) (beside l' e' same) = absurd (near_far l e same more)
Halvings-once line y s _ _ _ _ (in_left l e m b more middle has rest) (beside l' e' same) = absurd (near_far l e same more)
Halvings-once line y s _ _ _ _ (in_right l e m b more middle has rest) (in_right l' e' n c more' middle' has' rest') =
    let same = one_middle m n l e middle middle' in
    ap suc (Halvings-once line y s m e b c rest (subst (λ z. Halvings line y s z e c) (sym same) rest'))
Halvings-once line y s _ _ _ _ (in_left l e m b more middle has rest) (in_left l' e' n c more' middle' has' rest') =
    let same = one_middle m n l e middle middle' in
    ap suc (Halvings-once line y s l m b c rest (subst (λ z. Halvings line y s l z c) (sym same) rest'))
Halvings-once line y s _ _ _ _ (in_right l e m b more middle has rest) (in_left l' e' n c more' middle' has' rest') = absurd (has' (subst (λ z. side_of line (point_at z y) ≡ s) (one_middle m n l e middle middle') has))
Halvings-once line y s _ _ _ _ (in_left l e m b more middle has rest) (in_right l' e' n c more' middle' has' rest') = absurd (has (subst (λ z. side_of line (point_at z y) ≡ s) (one_middle n m l e middle' middle) has'))

one_side : (b : Rect) (line : Partition) (s u : Side) → IsArea b → IsWholeSide b line s → IsWholeSide b line u → s ≡ u
one_side b line s u area h k =
    let here : record { left : b.x0 ≤ℤ b.x0; low : b.y0 ≤ℤ b.y0 } = record { left = omega (arith, ints); low = omega (arith, ints) } in
    sym (h (point_at b.x0 b.y0) (record { left = here.left; right = area.columns; lowest = here.low; highest = area.rows })) ∙ k (point_at b.x0 b.y0) (record { left = here.left; right = area.columns; lowest = here.low; highest = area.rows })

flat_not : (b : Rect) (y : ℤ) → b.y0 ≡ b.y1 → IsMiddleRow b y → ⊥
flat_not b y e m = omega (arith, ints, m.more)

last_not_after : (line : Partition) (y : ℤ) (s : Side) (l e c d : ℤ) → IsLast line y s l e c → IsLast line y s l e d → c <ℤ d → ⊥
last_not_after line y s l e c d a b less = other_differs _ s (a.others d less (omega (arith, ints, b.below))) b.has

same_from_both : (c d : ℤ) → (c <ℤ d → ⊥) → (d <ℤ c → ⊥) → c ≡ d
same_from_both c d h k = by_lt_z c d (λ a. absurd (h a)) (λ a. by_lt_z d c (λ b. absurd (k b)) (λ b. omega (arith, ints)))

one_last : (line : Partition) (y : ℤ) (s : Side) (l e c d : ℤ) → IsLast line y s l e c → IsLast line y s l e d → c ≡ d
one_last line y s l e c d a b = same_from_both c d (last_not_after line y s l e c d a b) (last_not_after line y s l e d c b a)

one_line : (level : Level) (n : ℕ) (line other_line : Partition) → partition_at level n ≡ Some line → partition_at level n ≡ Some other_line → other_line ≡ line
one_line level n line other_line e f = let h : Some line ≡ Some other_line = sym e ∙ f in cc

one_child : (level : Level) (n : ℕ) (s u : Side) (q r : Place) → s ≡ u → child level n s ≡ Some q → child level n u ≡ Some r → q ≡ r
one_child level n s u q r e f g = let h : Some q ≡ Some r = sym f ∙ (ap (child level n) e ∙ g) in cc

module _ (level : Level) where
  pub Work-once : (b : Rect) (place : Place) (w p v r : ℕ) → IsArea b → Work level b place w p → Work level b place v r → (w ≡ v) × (p ≡ r)
  Work-once _ _ _ _ _ _ area (at_ssector b t) (at_ssector b' t') = (refl, refl)
  Work-once _ _ _ _ _ _ area (to_child b n line s q w p at on is_child rest) (to_child b' n' line' s' q' w' p' at' on' is_child' rest') =
      let lines = one_line level n line line' at at' in
      let places = one_child level n s s' q q' (one_side b line s s' area on (subst (λ l. IsWholeSide b l s') lines on')) is_child is_child' in
      let r = Work-once b q w p w' p' area rest (subst (λ z. Work level b z w' p') (sym places) rest') in
      (ap suc r.0, r.1)
  Work-once _ _ _ _ _ _ area (to_child b n line s q w p at on is_child rest) (by_rows b' n' line' y w1 p1 w2 p2 at' cut middle low high) =
      absurd (cut s (subst (λ l. IsWholeSide b l s) (one_line level n line' line at' at) on))
  Work-once _ _ _ _ _ _ area (to_child b n line s q w p at on is_child rest) (in_row b' n' line' u c q' r h w1 p1 w2 p2 at' cut flat has last halvings is_child' is_other first second) =
      absurd (cut s (subst (λ l. IsWholeSide b l s) (one_line level n line' line at' at) on))
  Work-once _ _ _ _ _ _ area (by_rows b n line y w1 p1 w2 p2 at cut middle low high) (to_child b' n' line' s q w p at' on is_child rest) =
      absurd (cut s (subst (λ l. IsWholeSide b l s) (one_line level n line line' at at') on))
  Work-once _ _ _ _ _ _ area (in_row b n line u c q r h w1 p1 w2 p2 at cut flat has last halvings is_child is_other first second) (to_child b' n' line' s q' w p at' on is_child' rest) =
      absurd (cut s (subst (λ l. IsWholeSide b l s) (one_line level n line line' at at') on))
  Work-once _ _ _ _ _ _ area (by_rows b n line y w1 p1 w2 p2 at cut middle low high) (in_row b' n' line' u c q r h v1 r1 v2 r2 at' cut' flat has last halvings is_child is_other first second) = absurd (flat_not b y flat middle)
  Work-once _ _ _ _ _ _ area (in_row b n line u c q r h w1 p1 w2 p2 at cut flat has last halvings is_child is_other first second) (by_rows b' n' line' y v1 r1 v2 r2 at' cut' middle low high) = absurd (flat_not b y flat middle)
  Work-once _ _ _ _ _ _ area (by_rows b n line y w1 p1 w2 p2 at cut middle low high) (by_rows b' n' line' z v1 r1 v2 r2 at' cut' middle' low' high') =
      let same = one_row b z y middle' middle in
      let lows = Work-once (rows_to b y) (node n) w1 p1 v1 r1 (IsArea-rows_to b y area middle) low (subst (λ x. Work level (rows_to b x) (node n) v1 r1) same low') in
      let highs = Work-once (rows_above b y) (node n) w2 p2 v2 r2 (IsArea-rows_above b y area middle) high (subst (λ x. Work level (rows_above b x) (node n) v2 r2) same high') in
      (rw (lows.0, highs.0), rw (lows.1, highs.1))
  Work-once _ _ _ _ _ _ area (in_row b n line s c q r h w1 p1 w2 p2 at cut flat has last halvings is_child is_other first second) (in_row b' n' line' u d q' r' k v1 r1 v2 r2 at' cut' flat' has' last' halvings' is_child' is_other' first' second') =
      let lines = one_line level n line line' at at' in
      let sides : u ≡ s = sym (subst (λ l. side_of l (point_at b.x0 b.y0) ≡ u) lines has') ∙ has in
      let ends = one_last line b.y0 s b.x0 b.x1 d c (subst (λ z. IsLast line b.y0 z b.x0 b.x1 d) sides (subst (λ l. IsLast l b.y0 u b.x0 b.x1 d) lines last')) last in
      let hs = Halvings-once line b.y0 s b.x0 b.x1 h k halvings (subst (λ z. Halvings line b.y0 z b.x0 b.x1 k) sides (subst (λ l. Halvings l b.y0 u b.x0 b.x1 k) lines halvings')) in
      let near = one_child level n u s q' q sides is_child' is_child in
      let far = one_child level n (other u) (other s) r' r (ap other sides) is_other' is_other in
      let firsts = Work-once (columns_to b c) q w1 p1 v1 r1 (IsArea-columns_to b c area last.from last.below) first (subst (λ z. Work level (columns_to b c) z v1 r1) near (subst (λ z. Work level (columns_to b z) q' v1 r1) ends first')) in
      let seconds = Work-once (columns_right b c) r w2 p2 v2 r2 (IsArea-columns_right b c area last.from last.below) second (subst (λ z. Work level (columns_right b c) z v2 r2) far (subst (λ z. Work level (columns_right b z) r' v2 r2) ends second')) in
      (rw (firsts.0, seconds.0, hs), rw (firsts.1, seconds.1))
