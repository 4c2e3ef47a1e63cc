use Rattle.std.proofs.Common.{refl, take, ap, sym, ◌∙◌, subst}
use Rattle.std.proofs.lemmas.Result.{err_from_is_err_and}
use Rattle.line_io.specs.AnswersLines.{LeavesWhole}
use Rattle.line_io.proofs.BlockLemmas.{Answered-end, Answered-line, Answered-none, Answered-stop, Answered-whole, EndsAnswer-lines, EndsAnswer-memory, last-end}
use Rattle.line_io.proofs.FrontLemmas.{Answered-front, Answered-front_stop, Answered-front_whole, all_behind}
use Rattle.line_io.proofs.lines.answer_block.Goals as goal

pub lines-init : goal.lines-init
lines-init g c = record { same = refl; sound = c.requires; so_far = Answered-none _ _ _ _ }

pub returns-in_err-answer_ended-clause-takes : goal.returns-in_err-answer_ended-clause-takes
returns-in_err-answer_ended-clause-takes g c =
    let p = err_from_is_err_and c.from_residual.result c.from_residual.ensures.1 in
    rw (p.1, p.2)
    (λ f told.
    Answered-stop c.lines.invariant.so_far c.in-Some.line.now c.in-Some.after.now
    c.in-Some.ensures.0 c.in-Some.ensures.1 _ f told (rw c.lines.invariant.same at c.in_err-answer_ended.ensures.takes f told))

pub returns-in_err-answer_ended-clause-unbroken : goal.returns-in_err-answer_ended-clause-unbroken
returns-in_err-answer_ended-clause-unbroken g c =
    let p = err_from_is_err_and c.from_residual.result c.from_residual.ensures.1 in
    rw (p.1, p.2)
    (λ f told is.
    subst (LeavesWhole f _ _ _)
    (sym (EndsAnswer-memory _ _ _ _ c.in_err-answer_ended.ensures.ends is))
    (Answered-whole c.lines.invariant.so_far f told))

pub returns-in_err-answer_ended-clause-ends : goal.returns-in_err-answer_ended-clause-ends
returns-in_err-answer_ended-clause-ends g c =
    let p = err_from_is_err_and c.from_residual.result c.from_residual.ensures.1 in
    rw (p.1, p.2) (EndsAnswer-lines _ _ _ _ c.lines.invariant.sound c.in_err-answer_ended.ensures.ends)

pub lines-preserved : goal.lines-preserved
lines-preserved g c =
    let same = c.in_ok-answer_ended.ensures.same ∙ c.lines.invariant.same in
    let line =
    Answered-line c.lines.invariant.so_far c.in-Some.line.now c.in-Some.after.now c.in-Some.ensures.0 c.in-Some.ensures.1 (g.W.Sink.state c.answer_ended.new.out)
    (λ f told. (rw c.lines.invariant.same at c.in_ok-answer_ended.ensures.takes f told).whole) in
    record {
      same = c.in_ok-count.ensures.same ∙ same;
      sound = c.in_ok-count.ensures.ends.sound;
      so_far =
          rw (c.in_ok-answer_ended.ensures.cleared, all_behind c.in_ok-count.count c.in-Some.after.now)
          (Answered-front line c.in_ok-count.count _ c.in_ok-count.ensures.whole
          (λ f told. (rw same at c.in_ok-count.ensures.answered f told).whole));
    }

pub returns-in_err-count-clause-takes : goal.returns-in_err-count-clause-takes
returns-in_err-count-clause-takes g c =
    let p = err_from_is_err_and c.from_residual-in_err-count.result c.from_residual-in_err-count.ensures.1 in
    let same = c.in_ok-answer_ended.ensures.same ∙ c.lines.invariant.same in
    let line =
    Answered-line c.lines.invariant.so_far c.in-Some.line.now c.in-Some.after.now c.in-Some.ensures.0 c.in-Some.ensures.1 (g.W.Sink.state c.answer_ended.new.out)
    (λ f told. (rw c.lines.invariant.same at c.in_ok-answer_ended.ensures.takes f told).whole) in
    rw (p.1, p.2)
    (λ f told. record { whole = tt; front = Answered-front_stop line _ f told (rw same at c.in_err-count.ensures.answered f told).front })

pub returns-in_err-count-clause-unbroken : goal.returns-in_err-count-clause-unbroken
returns-in_err-count-clause-unbroken g c =
    let p = err_from_is_err_and c.from_residual-in_err-count.result c.from_residual-in_err-count.ensures.1 in
    let same = c.in_ok-answer_ended.ensures.same ∙ c.lines.invariant.same in
    let line =
    Answered-line c.lines.invariant.so_far c.in-Some.line.now c.in-Some.after.now c.in-Some.ensures.0 c.in-Some.ensures.1 (g.W.Sink.state c.answer_ended.new.out)
    (λ f told. (rw c.lines.invariant.same at c.in_ok-answer_ended.ensures.takes f told).whole) in
    rw (p.1, p.2)
    (λ f told is. Answered-front_whole line _ f told ((rw same at c.in_err-count.ensures.answered f told).unbroken is))

pub returns-in_err-count-clause-ends : goal.returns-in_err-count-clause-ends
returns-in_err-count-clause-ends g c =
    let p = err_from_is_err_and c.from_residual-in_err-count.result c.from_residual-in_err-count.ensures.1 in
    rw (p.1, p.2) (record { sound = tt; fault = c.in_err-count.ensures.ends.fault })

pub returns-clause-takes : goal.returns-clause-takes
returns-clause-takes g c =
    λ f told. record {
      whole = Answered-end c.lines.invariant.so_far f told c.in_default.ensures;
      front = tt;
    }

pub returns-clause-kept : goal.returns-clause-kept
returns-clause-kept g c =
    c.keep.ensures ∙ ap (take 66) (sym (last-end c.lines.invariant.so_far c.in_default.ensures))
