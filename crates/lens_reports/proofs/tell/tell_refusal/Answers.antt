use Rattle.std.proofs.Common.{true, false, inl, inr, refl, sym, ap, ◌∙◌}
use Rattle.lens_texts.proofs.HandingLemmas.{appends_kept, front_kept, hand_ends, text_stopped, text_taken}
use Rattle.lens_engines.specs.declared.verdict.Verdict.TheVariants.{Unjudged}
use Rattle.lens_reports.specs.Run.{refusal_answer, refusal_line}
use Rattle.lens_reports.specs.declared.tell.ReportSum.{ReportSum}
use Rattle.lens_reports.proofs.tell.tell_refusal.Goals as goal

pub returns-then-is_err-clause-stopped : goal.returns-then-is_err-clause-stopped
returns-then-is_err-clause-stopped g c = (
  refl,
  hand_ends (g.W.Sink.state c.args.out.now) (g.W.Sink.state c.hand_on.new.self) c.hand_on.result true c.hand_on.ensures.keeps c.requires.answers (sym c.is_err.ensures.value ∙ c.if-is_err.true),
  inr (record { same = c.hand_on.ensures.keeps.bytes; silent = refl }),
)

pub returns-then-is_err-2-clause-stopped : goal.returns-then-is_err-2-clause-stopped
returns-then-is_err-2-clause-stopped g c =
    let stopped = text_stopped (g.E.Sink.state c.args.errors.now) (g.E.Sink.state c.write_refusal.new.errors) (refusal_line c.args.path.now c.args.refusal) c.write_refusal.result c.write_refusal.ensures
    (sym c.is_err-2.ensures.value ∙ c.if-is_err-2.true) in (
      stopped.0,
      stopped.1,
      c.hand_on.ensures.keeps.bytes,
      hand_ends (g.W.Sink.state c.args.out.now) (g.W.Sink.state c.hand_on.new.self) c.hand_on.result false c.hand_on.ensures.keeps c.requires.answers (sym c.is_err.ensures.value ∙ c.if-is_err.false),
    )

pub returns-then-is_err-3-clause-stopped : goal.returns-then-is_err-3-clause-stopped
returns-then-is_err-3-clause-stopped g c =
    let line = text_taken (g.E.Sink.state c.args.errors.now) (g.E.Sink.state c.write_refusal.new.errors) (refusal_line c.args.path.now c.args.refusal) c.write_refusal.result c.write_refusal.ensures
    (sym c.is_err-2.ensures.value ∙ c.if-is_err-2.false) in
    let answer = refusal_answer c.args.word c.args.path.now c.args.refusal in
    let stopped = text_stopped (g.W.Sink.state c.hand_on.new.self) (g.W.Sink.state c.answer_refusal.new.out) answer c.answer_refusal.result c.answer_refusal.ensures
    (sym c.is_err-3.ensures.value ∙ c.if-is_err-3.true) in (
      refl,
      stopped.1,
      inl (record { line = line.0; front = front_kept (g.W.Sink.state c.args.out.now) (g.W.Sink.state c.hand_on.new.self) (g.W.Sink.state c.answer_refusal.new.out) answer c.hand_on.ensures.keeps.bytes stopped.0 }),
    )

pub returns : goal.returns
returns g c =
    let line = text_taken (g.E.Sink.state c.args.errors.now) (g.E.Sink.state c.write_refusal.new.errors) (refusal_line c.args.path.now c.args.refusal) c.write_refusal.result c.write_refusal.ensures
    (sym c.is_err-2.ensures.value ∙ c.if-is_err-2.false) in
    let answer = refusal_answer c.args.word c.args.path.now c.args.refusal in
    let answered = text_taken (g.W.Sink.state c.hand_on.new.self) (g.W.Sink.state c.answer_refusal.new.out) answer c.answer_refusal.result c.answer_refusal.ensures
    (sym c.is_err-3.ensures.value ∙ c.if-is_err-3.false) in
    record {
      told = record {
        line = line.0;
        answer = appends_kept (g.W.Sink.state c.args.out.now).taken (g.W.Sink.state c.hand_on.new.self).taken (g.W.Sink.state c.answer_refusal.new.out).taken answer
            c.hand_on.ensures.keeps.bytes answered.0;
        counts = ap (λ (t : ReportSum). record t { verdict = Unjudged }) c.no_tally.ensures;
      };
      sound = record { answers = answered.1; refusals = line.1 };
      stopped = tt;
      handed = tt;
    }
