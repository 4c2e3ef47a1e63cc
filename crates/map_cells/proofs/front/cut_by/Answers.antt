use Rattle.std.proofs.Common.{◌-◌, true, false, sym, arith}
use Rattle.map_cells.proofs.FrontLemmas.{cut_begin, cut_end, cut_nothing, cut_whole, flag_differs}
use Rattle.map_cells.proofs.front.cut_by.Goals as goal

pub returns-in-true-true : goal.returns-in-true-true
returns-in-true-true c =
    let span = c.args.span in
    let some = c.requires.some in
    cut_nothing c.args.ends.now c.args.row span (span.end - 1) some (omega (arith, some))
    (sym (rw c.point.ensures at c.in-true-true.ensures)) (sym (rw c.point-2.ensures at c.in-true-true.ensures'))

pub returns-in-false-false : goal.returns-in-false-false
returns-in-false-false c =
    let span = c.args.span in
    let some = c.requires.some in
    cut_whole c.args.ends.now c.args.row span (span.end - 1) some (omega (arith, some))
    (sym (rw c.point.ensures at c.in-false-false.ensures)) (sym (rw c.point-2.ensures at c.in-false-false.ensures'))

pub returns-in-true-false : goal.returns-in-true-false
returns-in-true-false c =
    let span = c.args.span in
    let some = c.requires.some in
    let change = c.change-first.ensures in
    cut_begin c.args.ends.now c.args.row span (span.end - 1) c.change-first.result (omega (arith, some)) change.after change.to
    (sym (rw c.point.ensures at c.in-true-false.ensures)) change.before change.here
    (flag_differs _ false true (sym (rw c.point-2.ensures at c.in-true-false.ensures')) (λ e. cc))

pub returns-in-false-true : goal.returns-in-false-true
returns-in-false-true c =
    let span = c.args.span in
    let some = c.requires.some in
    let change = c.change-end.ensures in
    cut_end c.args.ends.now c.args.row span (span.end - 1) c.change-end.result (omega (arith, some)) change.after change.to
    (sym (rw c.point.ensures at c.in-false-true.ensures)) change.before change.here
    (flag_differs _ true false (sym (rw c.point-2.ensures at c.in-false-true.ensures')) (λ e. cc))
