use Rattle.std.proofs.Common.{true, false, inr, refl, sym, ◌∙◌}
use Rattle.lens_texts.proofs.HandingLemmas.{hand_ends, text_stopped, text_taken}
use Rattle.demo_engines.specs.Demos.{asked_of, unread_texts}
use Rattle.demo_engines.specs.RefusalText.{reason_text}
use Rattle.demo_engines.proofs.DemosLemmas.{lacks_answer, told_refused}
use Rattle.demo_engines.proofs.demos.tell_refused.Goals as goal

pub returns-then-is_err-clause-told : goal.returns-then-is_err-clause-told
returns-then-is_err-clause-told g c = (
  refl,
  inr (record {
    refused = refl;
    same = c.hand_on.ensures.keeps.bytes;
    failed = hand_ends (g.W.Sink.state c.args.out.now) (g.W.Sink.state c.hand_on.new.self) c.hand_on.result true c.hand_on.ensures.keeps c.requires.answers
        (sym c.is_err.ensures.value ∙ c.if-is_err.true);
    silent = refl;
  }),
)

pub returns-then-is_err-2-clause-told : goal.returns-then-is_err-2-clause-told
returns-then-is_err-2-clause-told g c =
    let stopped = text_stopped (g.E.Sink.state c.args.errors.now) (g.E.Sink.state c.write_refused.new.err) _ c.write_refused.result c.write_refused.ensures
    (sym c.is_err-2.ensures.value ∙ c.if-is_err-2.true) in
    record {
      refused = refl;
      same = c.hand_on.ensures.keeps.bytes;
      answers = hand_ends (g.W.Sink.state c.args.out.now) (g.W.Sink.state c.hand_on.new.self) c.hand_on.result false c.hand_on.ensures.keeps c.requires.answers
          (sym c.is_err.ensures.value ∙ c.if-is_err.false);
      front = stopped.0;
      failed = stopped.1;
    }

pub returns-then-is_err-3-clause-told : goal.returns-then-is_err-3-clause-told
returns-then-is_err-3-clause-told g c =
    let texts = unread_texts (asked_of c.args.question.now) c.args.lump (reason_text c.args.why) in
    let told = text_taken (g.E.Sink.state c.args.errors.now) (g.E.Sink.state c.write_refused.new.err) texts.messages c.write_refused.result c.write_refused.ensures
    (sym c.is_err-2.ensures.value ∙ c.if-is_err-2.false) in
    let stopped = text_stopped (g.W.Sink.state c.hand_on.new.self) (g.W.Sink.state c.answer_refused.new.out) texts.answer c.answer_refused.result c.answer_refused.ensures
    (sym c.is_err-3.ensures.value ∙ c.if-is_err-3.true) in
    lacks_answer texts (g.W.Sink.state c.args.out.now) (g.W.Sink.state c.hand_on.new.self) (g.W.Sink.state c.answer_refused.new.out)
    (g.E.Sink.state c.args.errors.now) (g.E.Sink.state c.write_refused.new.err) c.hand_on.ensures.keeps.bytes told.0 told.1 stopped.0 stopped.1

pub returns-clause-told : goal.returns-clause-told
returns-clause-told g c =
    let texts = unread_texts (asked_of c.args.question.now) c.args.lump (reason_text c.args.why) in
    let told = text_taken (g.E.Sink.state c.args.errors.now) (g.E.Sink.state c.write_refused.new.err) texts.messages c.write_refused.result c.write_refused.ensures
    (sym c.is_err-2.ensures.value ∙ c.if-is_err-2.false) in
    let answered = text_taken (g.W.Sink.state c.hand_on.new.self) (g.W.Sink.state c.answer_refused.new.out) texts.answer c.answer_refused.result c.answer_refused.ensures
    (sym c.is_err-3.ensures.value ∙ c.if-is_err-3.false) in
    told_refused texts (g.W.Sink.state c.args.out.now) (g.W.Sink.state c.hand_on.new.self) (g.W.Sink.state c.answer_refused.new.out)
    (g.E.Sink.state c.args.errors.now) (g.E.Sink.state c.write_refused.new.err) c.hand_on.ensures.keeps.bytes told.0 told.1 answered.0 answered.1
