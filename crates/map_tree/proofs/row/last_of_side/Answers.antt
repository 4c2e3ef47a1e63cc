use lib.Signed.{lt_z}
use Rattle.map_geo.specs.Point.{IsInRange}
use Rattle.map_tree.specs.Cuts.{IsMiddle}
use Rattle.std.proofs.Common.{true, false, sym, ◌∙◌, ◌≡◌, ◌<◌, ◌≤◌, ℕ, ℤ, pos, ◌+ℤ◌, ◌-ℤ◌, ◌≤ℤ◌, ◌<ℤ◌, FitsSigned, to_z, of_z, w32, arith}
use Rattle.std.proofs.lemmas.Int.{ints, to_z-of_z}
use Rattle.std.specs.Prelude.{unsigned_abs}
use Rattle.map_tree.proofs.RowLemmas.{Searched-start, Searched-right, Searched-left, Searched-last, Searched-halvings, same_side, other_side}
use Rattle.map_tree.proofs.row.last_of_side.Goals as goal
use Rattle.map_tree.proofs.row.last_of_side.Goals.{then-eq, else-eq}

pub loop-l-init : goal.loop-l-init
loop-l-init c =
    let y = c.ranges.y in
    let x0 = c.ranges.x0 in
    let x1 = c.ranges.x1 in
    let h = c.requires in
    simp to_z-of_z (Searched-start _ _ _ _ _ h.ordered h.left h.right)

-- what the test l + 1 < e says
test_true : (l e x0 x1 : ℤ) → IsInRange x0 → IsInRange x1 → x0 ≤ℤ l → l <ℤ e → e ≤ℤ x1 → lt_z (to_z w32 (of_z w32 (l +ℤ pos 1))) e ≡ true → (l +ℤ pos 1) <ℤ e
test_true l e x0 x1 a b from ordered to test = omega (arith, ints, a.least, b.greatest)

test_false : (l e x0 x1 : ℤ) → IsInRange x0 → IsInRange x1 → x0 ≤ℤ l → l <ℤ e → e ≤ℤ x1 → lt_z (to_z w32 (of_z w32 (l +ℤ pos 1))) e ≡ false → e ≤ℤ (l +ℤ pos 1)
test_false l e x0 x1 a b from ordered to test = omega (arith, ints, a.least, b.greatest)

less_right : (l e m : ℤ) → l <ℤ e → (l +ℤ pos 1) <ℤ e → IsMiddle m l e → unsigned_abs (e -ℤ m) < unsigned_abs (e -ℤ l)
less_right l e m ordered more middle = omega (arith, ints, middle.lower, middle.upper)

less_left : (l e m : ℤ) → l <ℤ e → (l +ℤ pos 1) <ℤ e → IsMiddle m l e → unsigned_abs (m -ℤ l) < unsigned_abs (e -ℤ l)
less_left l e m ordered more middle = omega (arith, ints, middle.lower, middle.upper)

in_range_fits : (z : ℤ) → IsInRange z → FitsSigned w32 z
in_range_fits z h = omega (arith, ints, h.least, h.greatest)

pub loop-l-smaller : goal.loop-l-smaller
loop-l-smaller c =
    let y = c.ranges.y in
    let x0 = c.ranges.x0 in
    let x1 = c.ranges.x1 in
    let h = c.requires in
    let i = simp to_z-of_z at c.loop-l.invariant in
    let more = test_true _ _ _ _ h.left_in h.right_in i.from i.ordered i.to c.loop-l-test.true in
    let m_is = to_z-of_z w32 c.middle-m.result (in_range_fits _ c.middle-m.ensures.in_range) in
    elim c.if-eq.branch [
      | then-eq w ↦ rw (w.l-is, w.e-is, m_is) (less_right _ _ _ i.ordered more c.middle-m.ensures.middle)
      | else-eq w ↦ rw (w.l-is, w.e-is, m_is) (less_left _ _ _ i.ordered more c.middle-m.ensures.middle)
    ]

pub loop-l-preserved : goal.loop-l-preserved
loop-l-preserved c =
    let y = c.ranges.y in
    let x0 = c.ranges.x0 in
    let x1 = c.ranges.x1 in
    let h = c.requires in
    let i = simp to_z-of_z at c.loop-l.invariant in
    let more = test_true _ _ _ _ h.left_in h.right_in i.from i.ordered i.to c.loop-l-test.true in
    let m = in_range_fits _ c.middle-m.ensures.in_range in
    let m_is = to_z-of_z w32 c.middle-m.result m in
    let at = simp to_z-of_z at c.at.ensures in
    elim c.if-eq.branch [
      | then-eq w ↦
          let has = rw (c.side.ensures, at) at (same_side _ _ (sym c.eq.ensures ∙ w.if-eq.true)) in
          rw (w.l-is, w.e-is, m_is) (simp to_z-of_z (Searched-right _ _ _ _ _ _ _ _ _ i more c.middle-m.ensures.middle has))
      | else-eq w ↦
          let has = rw (c.side.ensures, at) at (other_side _ _ (sym c.eq.ensures ∙ w.if-eq.false)) in
          rw (w.l-is, w.e-is, m_is) (simp to_z-of_z (Searched-left _ _ _ _ _ _ _ _ _ i more c.middle-m.ensures.middle has))
    ]

pub returns-clause-last : goal.returns-clause-last
returns-clause-last c =
    let y = c.ranges.y in
    let x0 = c.ranges.x0 in
    let x1 = c.ranges.x1 in
    let h = c.requires in
    let i = simp to_z-of_z at c.loop-l.invariant in
    Searched-last _ _ _ _ _ _ _ _ i (test_false _ _ _ _ h.left_in h.right_in i.from i.ordered i.to c.loop-l-test.false)

pub returns-clause-halvings : goal.returns-clause-halvings
returns-clause-halvings c =
    let y = c.ranges.y in
    let x0 = c.ranges.x0 in
    let x1 = c.ranges.x1 in
    let h = c.requires in
    let i = simp to_z-of_z at c.loop-l.invariant in
    Searched-halvings _ _ _ _ _ _ _ _ i (test_false _ _ _ _ h.left_in h.right_in i.from i.ordered i.to c.loop-l-test.false)

-- what stands between the ends is in range, the next of the left one fits, and the halvings so far are few
left_in : (l e x0 x1 : ℤ) → IsInRange x0 → IsInRange x1 → x0 ≤ℤ l → l <ℤ e → e ≤ℤ x1 → IsInRange l
left_in l e x0 x1 a b from ordered to = record { least = omega (arith, ints, a.least); greatest = omega (arith, ints, b.greatest) }

right_in : (l e x0 x1 : ℤ) → IsInRange x0 → IsInRange x1 → x0 ≤ℤ l → l <ℤ e → e ≤ℤ x1 → IsInRange e
right_in l e x0 x1 a b from ordered to = record { least = omega (arith, ints, a.least); greatest = omega (arith, ints, b.greatest) }

next_fits : (l e x0 x1 : ℤ) → IsInRange x0 → IsInRange x1 → x0 ≤ℤ l → l <ℤ e → e ≤ℤ x1 → FitsSigned w32 (l +ℤ pos 1)
next_fits l e x0 x1 a b from ordered to = omega (arith, ints, a.least, b.greatest)

few_halvings : (h : ℕ) (l e x0 x1 : ℤ) → IsInRange x0 → IsInRange x1 → l <ℤ e → (pos h +ℤ (e -ℤ l)) ≤ℤ (x1 -ℤ x0) → h ≤ 32766
few_halvings h l e x0 x1 a b ordered few = omega (arith, ints, a.least, b.greatest)

pub overflow_add-l : goal.overflow_add-l
overflow_add-l c =
    let x0 = c.ranges.x0 in
    let x1 = c.ranges.x1 in
    let i = simp to_z-of_z at c.loop-l.invariant in
    next_fits _ _ _ _ c.requires.left_in c.requires.right_in i.from i.ordered i.to

pub middle-m-requires-clause-low_in : goal.middle-m-requires-clause-low_in
middle-m-requires-clause-low_in c =
    let x0 = c.ranges.x0 in
    let x1 = c.ranges.x1 in
    let i = simp to_z-of_z at c.loop-l.invariant in
    left_in _ _ _ _ c.requires.left_in c.requires.right_in i.from i.ordered i.to

pub middle-m-requires-clause-high_in : goal.middle-m-requires-clause-high_in
middle-m-requires-clause-high_in c =
    let x0 = c.ranges.x0 in
    let x1 = c.ranges.x1 in
    let i = simp to_z-of_z at c.loop-l.invariant in
    right_in _ _ _ _ c.requires.left_in c.requires.right_in i.from i.ordered i.to

pub at-requires-clause-x_in : goal.at-requires-clause-x_in
at-requires-clause-x_in c = rw (to_z-of_z w32 c.middle-m.result (in_range_fits _ c.middle-m.ensures.in_range)) c.middle-m.ensures.in_range

pub at-requires-clause-y_in : goal.at-requires-clause-y_in
at-requires-clause-y_in c = rw (to_z-of_z w32 c.args.y c.ranges.y) c.requires.row_in

pub overflow_add-halvings : goal.overflow_add-halvings
overflow_add-halvings c =
    let x0 = c.ranges.x0 in
    let x1 = c.ranges.x1 in
    let i = simp to_z-of_z at c.loop-l.invariant in
    let few : c.loop-l.halvings ≤ 32766 = few_halvings _ _ _ _ _ c.requires.left_in c.requires.right_in i.ordered i.few in
    omega arith

pub returns-clause-few : goal.returns-clause-few
returns-clause-few c =
    let x0 = c.ranges.x0 in
    let x1 = c.ranges.x1 in
    let i = simp to_z-of_z at c.loop-l.invariant in
    let few : c.loop-l.halvings ≤ 32766 = few_halvings _ _ _ _ _ c.requires.left_in c.requires.right_in i.ordered i.few in
    omega arith
