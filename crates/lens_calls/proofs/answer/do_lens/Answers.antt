use Rattle.std.proofs.Common.{map, refl, rules}
use Rattle.lens_calls.proofs.AnswerLemmas.{answered, not_taken, taken}
use Rattle.lens_calls.proofs.answer.do_lens.Goals as goal

pub returns-then-not-takes : goal.returns-then-not-takes
returns-then-not-takes g c = record {
  none = not_taken c.args.asked.now.word c.args.asked.now.bases c.args.files.now (λ takes. search rules);
  untouched = refl;
  silent = refl;
}

pub returns : goal.returns
returns g c =
    answered g.W.Sink.state g.E.Sink.state c.args.asked.now (map (λ path. path.now) c.args.paths.now) (map (λ file. file.now) c.args.files.now)
    c.args.out.now c.answer.new.out c.args.errors.now c.answer.new.errors c.answer.result
    (taken c.args.asked.now.word c.args.asked.now.bases c.args.files.now (c.takes.ensures.0 (search rules)))
    c.answer.ensures.answers c.answer.ensures.full
