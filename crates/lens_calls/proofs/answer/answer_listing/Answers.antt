use Rattle.lens_calls.proofs.AnswerLemmas.{assembled}
use Rattle.lens_calls.proofs.answer.answer_listing.Goals as goal

pub returns : goal.returns
returns g c =
    assembled c.args.listing.now (g.W.Sink.state c.args.out.now) (g.W.Sink.state c.assemble_input.new.out) (g.E.Sink.state c.args.errors.now) (g.E.Sink.state c.assemble_input.new.errors)
    c.assemble_input.result c.assemble_input.ensures.assembled c.assemble_input.ensures.full
