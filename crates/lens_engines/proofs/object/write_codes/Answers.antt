use Rattle.std.proofs.Common.{◌≡◌, ◌+◌, ◌++◌, ◌∷◌, [], ◌∙◌, Some, ap, sym, arith, drop, take}
use Rattle.std.specs.List.{slice_get}
use Rattle.std.proofs.lemmas.Result.{err_from_is_err_and}
use Rattle.level_codes.specs.Codes.{report_order}
use Rattle.line_io.proofs.WriteProgressLemmas.{SoFar-end, SoFar-more, SoFar-stop}
use Rattle.lens_engines.specs.Objects.{count_member, count_members}
use Rattle.lens_engines.specs.ReportCounts.{count_of}
use Rattle.lens_engines.proofs.ObjectLemmas.{SoFar-joined, members-none, members-past, members-some, separated}
use Rattle.lens_engines.proofs.OrderLemmas.{order-at, order-length}
use Rattle.lens_engines.proofs.object.write_codes.Goals as goal
use Rattle.lens_engines.proofs.object.write_codes.Goals.{then-count-gt0+in_ok-write_count, else-count-gt0}

pub codes-init : goal.codes-init
codes-init g c = record {
  sound = c.requires.sound;
  short = omega arith;
  so_far = SoFar-joined (count_members c.args.counts.now (drop c.args.from (take c.args.to report_order))) _;
}

pub returns-in_err-write_count : goal.returns-in_err-write_count
returns-in_err-write_count g c =
    let p = err_from_is_err_and c.from_residual.result c.from_residual.ensures.1 in
    let counts = c.args.counts.now in
    let codes = take c.args.to report_order in
    let i = c.codes.rank in
    let code = c.at-code.result in
    let at : slice_get codes i ≡ Some code = order-at c.args.to i c.codes-test.true c.requires.within ∙ ap (λ x. Some x) (sym c.at-code.ensures) in
    let separator = c.codes.separator.now in
    let next = ap (separated separator) (members-some counts codes i code at (omega (arith, c.if-count-gt0.true, c.get-count.ensures))) in
    rw (p.1, p.2) (SoFar-stop (separator ++ count_member code (count_of counts code)) (separated (44 ∷ []) (count_members counts (drop (i + 1) codes)))
    c.codes.invariant.so_far next (rw c.get-count.ensures at c.in_err-write_count.ensures))

pub codes-preserved : goal.codes-preserved
codes-preserved g c =
    let counts = c.args.counts.now in
    let codes = take c.args.to report_order in
    let i = c.codes.rank in
    let code = c.at-code.result in
    let at : slice_get codes i ≡ Some code = order-at c.args.to i c.codes-test.true c.requires.within ∙ ap (λ x. Some x) (sym c.at-code.ensures) in
    let separator = c.codes.separator.now in
    elim c.if-count-gt0.branch [
      | then-count-gt0+in_ok-write_count v ↦
          let next = ap (separated separator) (members-some counts codes i code at (omega (arith, v.if-count-gt0.true, c.get-count.ensures))) in
          rw (v.out-is, v.separator-is) (record {
            sound = v.in_ok-write_count.ensures.ends.sound;
            short = omega arith;
            so_far = SoFar-more _ (separator ++ count_member code (count_of counts code)) (separated (44 ∷ []) (count_members counts (drop (i + 1) codes)))
                c.codes.invariant.so_far next (rw c.get-count.ensures at v.in_ok-write_count.ensures.takes.whole);
          })
      | else-count-gt0 v ↦
          let next = ap (separated separator) (members-none counts codes i code at (omega (arith, v.if-count-gt0.false, c.get-count.ensures))) in
          rw (v.out-is, v.separator-is, ← next) (record {
            sound = c.codes.invariant.sound;
            short = c.codes.invariant.short;
            so_far = c.codes.invariant.so_far;
          })
    ]

pub returns : goal.returns
returns g c =
    let codes = take c.args.to report_order in
    let past = members-past c.args.counts.now codes c.codes.rank (omega (arith, c.codes-test.false, order-length c.args.to c.requires.within)) in
    SoFar-end tt c.codes.invariant.so_far (ap (separated c.codes.separator.now) past) c.codes.invariant.sound
