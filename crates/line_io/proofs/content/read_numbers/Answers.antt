use Rattle.std.proofs.Common.{Bool, true, false, ◌&&◌, IsTrue, refl, ◌≡◌, ◌∙◌, [], length, ap, arith, rules, w32}
use Rattle.std.proofs.lemmas.Int.{to_z-of_z}
use Rattle.std.proofs.lemmas.List.{length-set, nil_from_length}
use Rattle.std.proofs.lemmas.Bool.{false≢true}
use Rattle.std.specs.Int.RustNames.{FitsSigned}
use Rattle.line_io.proofs.ReadingLemmas.{all_stored, more_so_far, no_more_numbers, nothing_left, something_left}
use Rattle.line_io.proofs.content.read_numbers.Goals as goal

both_true : (a b : Bool) → IsTrue (a && b) → IsTrue a × IsTrue b
both_true true b h = (refl, h)
both_true false b h = absurd (false≢true h)

pub returns-in_err-value-clause-none : goal.returns-in_err-value-clause-none
returns-in_err-value-clause-none g c =
    rw c.from_residual.ensures
    (λ exact form.
    no_more_numbers _ _ _ _ _ _ c.loop-i.invariant.so_far c.in_err-value.ensures
    c.loop-i-test.true exact form)

pub loop-i-preserved : goal.loop-i-preserved
loop-i-preserved g c =
    let fits : FitsSigned w32 c.in_ok-value.value = search rules in
    let sized = c.loop-i.invariant.sized in
    let so_far =
    more_so_far _ _ _ _ _ _ _ _ _ c.loop-i.invariant.so_far c.in_ok-value.ensures (omega arith)
    (λ h. both_true _ _ h) in
    simp to_z-of_z (record { sized = length-set _ _ _ ∙ sized; so_far = so_far })

pub returns-then-not-is_empty-clause-none : goal.returns-then-not-is_empty-clause-none
returns-then-not-is_empty-clause-none g c = λ exact form.
    let some = c.if-not-is_empty.ensures in
    something_left _ c.loop-i.rest.now _ _ _ _ c.loop-i.invariant.so_far (omega arith)
    (λ nothing. let none = ap length nothing in grind arith) exact form

pub returns-clause-some : goal.returns-clause-some
returns-clause-some g c =
    let empty = c.if-not-is_empty.ensures in
    let nothing : c.loop-i.rest.now ≡ [] = nil_from_length _ (grind arith) in
    let so_far = c.loop-i.invariant.so_far in (
      so_far.read,
      nothing_left _ _ _ _ _ _ so_far (omega arith) (omega arith) nothing,
      (all_stored _ _ _ _ _ _ so_far (omega arith) c.loop-i.invariant.sized nothing).0,
    )
