use Rattle.std.proofs.Common.{◌≡◌, ◌+◌, ◌<◌, ◌++◌, ◌∷◌, [], ◌∙◌, Some, ap, length, sym, arith, drop}
use Rattle.std.specs.Prelude.{filter}
use Rattle.std.specs.List.{slice_get}
use Rattle.std.proofs.lemmas.Result.{err_from_is_err_and}
use Rattle.level_codes.specs.Codes.{code_name, report_order}
use Rattle.level_codes.specs.Sets.{has}
use Rattle.line_io.proofs.WriteProgressLemmas.{SoFar-end, SoFar-more, SoFar-stop}
use Rattle.lens_engines.specs.Unlooked.{codes_in, name_texts}
use Rattle.lens_engines.proofs.ObjectLemmas.{SoFar-joined, separated}
use Rattle.lens_engines.proofs.OrderLemmas.{order-whole}
use Rattle.lens_engines.proofs.UnlookedLemmas.{names-none, names-past, names-some, order-here}
use Rattle.lens_engines.proofs.unlooked.write_names.Goals as goal
use Rattle.lens_engines.proofs.unlooked.write_names.Goals.{then-has+in_ok-write_name, else-has}

pub codes-init : goal.codes-init
codes-init g c = record {
  sound = c.requires.sound;
  short = omega arith;
  so_far = SoFar-joined (name_texts c.args.front.now c.args.back.now (codes_in c.args.set.now)) _;
}

pub returns-in_err-write_name : goal.returns-in_err-write_name
returns-in_err-write_name g c =
    let p = err_from_is_err_and c.from_residual.result c.from_residual.ensures.1 in
    let set = c.args.set.now in
    let front = c.args.front.now in
    let back = c.args.back.now in
    let i = c.codes.rank in
    let code = c.at-code.result in
    let below : i < length report_order = omega (arith, c.codes-test.true, order-whole) in
    let at : slice_get report_order i ≡ Some code = order-here i code below c.at-code.ensures in
    let separator = c.codes.separator.now in
    let next = ap (separated separator) (names-some front back set report_order i code at (sym c.has.ensures ∙ c.if-has.true)) in
    rw (p.1, p.2) (SoFar-stop (separator ++ (front ++ (code_name code ++ back))) (separated (44 ∷ []) (name_texts front back (filter (has set) (drop (i + 1) report_order))))
    c.codes.invariant.so_far next c.in_err-write_name.ensures)

pub codes-preserved : goal.codes-preserved
codes-preserved g c =
    let set = c.args.set.now in
    let front = c.args.front.now in
    let back = c.args.back.now in
    let i = c.codes.rank in
    let code = c.at-code.result in
    let below : i < length report_order = omega (arith, c.codes-test.true, order-whole) in
    let at : slice_get report_order i ≡ Some code = order-here i code below c.at-code.ensures in
    let separator = c.codes.separator.now in
    elim c.if-has.branch [
      | then-has+in_ok-write_name v ↦
          let next = ap (separated separator) (names-some front back set report_order i code at (sym c.has.ensures ∙ v.if-has.true)) in
          rw (v.out-is, v.separator-is) (record {
            sound = v.in_ok-write_name.ensures.ends.sound;
            short = omega arith;
            so_far = SoFar-more _ (separator ++ (front ++ (code_name code ++ back))) (separated (44 ∷ []) (name_texts front back (filter (has set) (drop (i + 1) report_order))))
                c.codes.invariant.so_far next v.in_ok-write_name.ensures.takes.whole;
          })
      | else-has v ↦
          let next = ap (separated separator) (names-none front back set report_order i code at (sym c.has.ensures ∙ v.if-has.false)) in
          rw (v.out-is, v.separator-is, ← next) (record {
            sound = c.codes.invariant.sound;
            short = c.codes.invariant.short;
            so_far = c.codes.invariant.so_far;
          })
    ]

pub returns : goal.returns
returns g c =
    let past = names-past c.args.front.now c.args.back.now c.args.set.now c.codes.rank (omega (arith, c.codes-test.false, order-whole)) in
    SoFar-end tt c.codes.invariant.so_far (ap (separated c.codes.separator.now) past) c.codes.invariant.sound
