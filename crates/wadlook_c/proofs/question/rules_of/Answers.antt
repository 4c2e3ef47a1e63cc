use Rattle.std.proofs.Common.{◌∙◌, refl}
use Rattle.wadlook_c.proofs.QuestionLemmas.{lenient_fails, strict_fails}
use Rattle.wadlook_c.proofs.question.rules_of.Goals.{then-question, else-question}
use Rattle.wadlook_c.proofs.question.rules_of.Goals as goal

pub returns : goal.returns
returns c =
    let question = c.args.question.now in
    let failing = c.codes_of-failing.result in
    record {
      reads = c.reading_of.ensures;
      looks = c.warnings_of.ensures;
      ignores = c.codes_of.ensures;
      fails = elim c.if-question.branch [
        | then-question w ↦
            strict_fails question.failing question.strict failing w.of_group.result c.if-question.result w.if-question.true c.codes_of-failing.ensures w.of_group.ensures
            (w.result-is ∙ w.with.ensures)
        | else-question w ↦ lenient_fails question.failing question.strict failing c.if-question.result w.if-question.false c.codes_of-failing.ensures w.result-is
      ];
      ends = refl;
    }
