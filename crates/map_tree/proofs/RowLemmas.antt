-- The search in one row, and the ends of a row that isn't whole.
use Rattle.std.proofs.Common.{ℕ, suc, ◌+◌, ℤ, pos, ◌+ℤ◌, ◌-ℤ◌, ◌≤ℤ◌, ◌<ℤ◌, ◌≡◌, ◌≢◌, ◌⊎◌, inl, inr, refl, sym, ap, ◌∙◌, subst, true, false, arith}
use Rattle.std.proofs.lemmas.Int.{ints, by_lt_z}
use Rattle.map_geo.specs.contracts.sides.Side.{the_type}
use denote.Enum.Bare.{sameb}
use Rattle.map_geo.specs.declared.sides.Side.{Side}
use Rattle.map_geo.specs.declared.sides.Side.TheVariants.{Front, Back}
use Rattle.map_geo.specs.Point.{point_at}
use Rattle.map_geo.specs.Partition.{Partition}
use Rattle.map_geo.specs.Side.{side_of, other}
use Rattle.map_geo.specs.Rect.{Rect, IsWholeSide}
use Rattle.map_geo.proofs.AlongLemmas.{column_stays, sides_along_rows}
use Rattle.map_tree.specs.Cuts.{IsCut, Halvings, beside, in_right, in_left, IsMiddle, IsLast, columns_to, columns_right}

pub same_side : (a b : Side) → sameb the_type a b ≡ true → a ≡ b
same_side Front Front e = refl
same_side Front Back e = cc
same_side Back Front e = cc
same_side Back Back e = refl

pub other_side : (a b : Side) → sameb the_type a b ≡ false → a ≡ other b
other_side Front Front e = cc
other_side Front Back e = refl
other_side Back Front e = refl
other_side Back Back e = cc

pub other_differs : (a s : Side) → a ≡ other s → a ≢ s
other_differs Front Front e f = cc
other_differs Front Back e f = cc
other_differs Back Front e f = cc
other_differs Back Back e f = cc

-- how far the search has come: the ends l and e have the two sides, and what is found from here is what is found from the whole row
pub record Searched (line : Partition) (y : ℤ) (s : Side) (x0 x1 l e : ℤ) (halvings : ℕ) : Type 0 where
  pub from : x0 ≤ℤ l
  pub ordered : l <ℤ e
  pub to : e ≤ℤ x1
  pub has : side_of line (point_at l y) ≡ s
  pub has_not : side_of line (point_at e y) ≡ other s
  pub last : side_of line (point_at x1 y) ≡ other s
  pub few : (pos halvings +ℤ (e -ℤ l)) ≤ℤ (x1 -ℤ x0)
  pub owes : (b : ℕ) → Halvings line y s l e b → Halvings line y s x0 x1 (halvings + b)

module _ (line : Partition) (y : ℤ) (s : Side) (x0 x1 : ℤ) where
  pub Searched-start : x0 <ℤ x1 → side_of line (point_at x0 y) ≡ s → side_of line (point_at x1 y) ≡ other s → Searched line y s x0 x1 x0 x1 0
  Searched-start ordered has last = record {
    from = omega (arith, ints);
    ordered = ordered;
    to = omega (arith, ints);
    has = has;
    has_not = last;
    last = last;
    few = omega (arith, ints);
    owes = λ b found. subst (Halvings line y s x0 x1) (omega arith) found;
  }

  pub Searched-right : (l e m : ℤ) (halvings : ℕ) → Searched line y s x0 x1 l e halvings → (l +ℤ pos 1) <ℤ e → IsMiddle m l e → side_of line (point_at m y) ≡ s → Searched line y s x0 x1 m e (halvings + 1)
  Searched-right l e m halvings so_far more middle has = record {
    from = omega (arith, ints, so_far.from, middle.upper);
    ordered = omega (arith, ints, middle.lower);
    to = so_far.to;
    has = has;
    has_not = so_far.has_not;
    last = so_far.last;
    few = omega (arith, ints, so_far.few, middle.upper);
    owes = λ b found. subst (Halvings line y s x0 x1) (omega arith) (so_far.owes (suc b) (in_right l e m b more middle has found));
  }

  pub Searched-left : (l e m : ℤ) (halvings : ℕ) → Searched line y s x0 x1 l e halvings → (l +ℤ pos 1) <ℤ e → IsMiddle m l e → side_of line (point_at m y) ≡ other s → Searched line y s x0 x1 l m (halvings + 1)
  Searched-left l e m halvings so_far more middle has = record {
    from = so_far.from;
    ordered = omega (arith, ints, middle.upper);
    to = omega (arith, ints, so_far.to, middle.lower);
    has = so_far.has;
    has_not = has;
    last = so_far.last;
    few = omega (arith, ints, so_far.few, middle.lower);
    owes = λ b found. subst (Halvings line y s x0 x1) (omega arith) (so_far.owes (suc b) (in_left l e m b more middle (other_differs _ s has) found));
  }

  pub Searched-last : (l e : ℤ) (halvings : ℕ) → Searched line y s x0 x1 l e halvings → e ≤ℤ (l +ℤ pos 1) → IsLast line y s x0 x1 l
  Searched-last l e halvings so_far near = record {
    from = so_far.from;
    below = omega (arith, ints, so_far.ordered, so_far.to);
    has = so_far.has;
    others = λ x after to. sides_along_rows line y e x x1 (omega (arith, ints)) to (so_far.has_not ∙ sym so_far.last) ∙ so_far.has_not;
  }

  pub Searched-halvings : (l e : ℤ) (halvings : ℕ) → Searched line y s x0 x1 l e halvings → e ≤ℤ (l +ℤ pos 1) → Halvings line y s x0 x1 halvings
  Searched-halvings l e halvings so_far near =
      subst (Halvings line y s x0 x1) (omega arith) (so_far.owes 0 (beside l e (omega (arith, ints, so_far.ordered))))

pub same_or_other : (a b : Side) → (a ≡ b) ⊎ (a ≡ other b)
same_or_other Front Front = inl refl
same_or_other Front Back = inr refl
same_or_other Back Front = inr refl
same_or_other Back Back = inl refl

pub same_from_bounds : (a b z : ℤ) → a ≡ b → a ≤ℤ z → z ≤ℤ b → z ≡ a
same_from_bounds a b z e h k = omega (arith, ints)

-- each row has the sides of the lowest
abbrev pub AreAlike : Partition → Rect → Type 0
AreAlike line b = (y : ℤ) → b.y0 ≤ℤ y → y ≤ℤ b.y1 → (x : ℤ) → side_of line (point_at x y) ≡ side_of line (point_at x b.y0)

-- so it is where there is one row, or the partition is upright
pub alike : (line : Partition) (b : Rect) → (b.y0 ≡ b.y1) ⊎ (line.dx ≡ pos 0) → AreAlike line b
alike line b (inl flat) y from to x = ap (λ z. side_of line (point_at x z)) (same_from_bounds b.y0 b.y1 y flat from to)
alike line b (inr upright) y from to x = column_stays line x y b.y0 upright

whole_rows : (line : Partition) (b : Rect) → AreAlike line b → side_of line (point_at b.x1 b.y0) ≡ side_of line (point_at b.x0 b.y0) → IsWholeSide b line (side_of line (point_at b.x0 b.y0))
whole_rows line b same_rows same place inside =
    same_rows place.y inside.lowest inside.highest place.x ∙ sides_along_rows line b.y0 b.x0 place.x b.x1 inside.left inside.right (sym same)

pub ends_differ : (line : Partition) (b : Rect) → AreAlike line b → IsCut b line → side_of line (point_at b.x1 b.y0) ≡ other (side_of line (point_at b.x0 b.y0))
ends_differ line b same_rows cut = elim (same_or_other (side_of line (point_at b.x1 b.y0)) (side_of line (point_at b.x0 b.y0))) [
  | inl same ↦ absurd (cut _ (whole_rows line b same_rows same))
  | inr differ ↦ differ
]

after : (c x : ℤ) → (c +ℤ pos 1) ≤ℤ x → c <ℤ x
after c x h = omega (arith, ints)

-- the columns up to the last one with the side of the left end have it, in each row
pub near_side : (line : Partition) (b : Rect) (s : Side) (c : ℤ) → AreAlike line b → side_of line (point_at b.x0 b.y0) ≡ s → IsLast line b.y0 s b.x0 b.x1 c → IsWholeSide (columns_to b c) line s
near_side line b s c same_rows left last place inside =
    same_rows place.y inside.lowest inside.highest place.x ∙ (sides_along_rows line b.y0 b.x0 place.x c inside.left inside.right (left ∙ sym last.has) ∙ left)

-- the columns right of it have the other one
pub far_side : (line : Partition) (b : Rect) (s : Side) (c : ℤ) → AreAlike line b → IsLast line b.y0 s b.x0 b.x1 c → IsWholeSide (columns_right b c) line (other s)
far_side line b s c same_rows last place inside =
    same_rows place.y inside.lowest inside.highest place.x ∙ last.others place.x (after c place.x inside.left) inside.right

pub not_other : (a : Side) → a ≡ other a → ⊥
not_other Front e = cc
not_other Back e = cc

pub ends_ordered : (line : Partition) (b : Rect) → b.x0 ≤ℤ b.x1 → AreAlike line b → IsCut b line → b.x0 <ℤ b.x1
ends_ordered line b some same_rows cut =
    by_lt_z b.x0 b.x1 (λ h. h) (λ h. let one : b.x0 ≡ b.x1 = omega (arith, ints) in absurd (not_other (side_of line (point_at b.x1 b.y0)) (rw one at (ends_differ line b same_rows cut))))
