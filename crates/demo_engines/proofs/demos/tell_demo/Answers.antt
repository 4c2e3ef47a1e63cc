use Rattle.std.proofs.Common.{true, false, refl}
use Rattle.demo_engines.specs.Demos.{asked_of, read_text, refused, unread_texts}
use Rattle.later_demos.specs.FaultText.{fault_text}
use Rattle.demo_engines.proofs.DemosLemmas.{answered_handed, told_read}
use Rattle.demo_engines.proofs.demos.tell_demo.Goals as goal

pub returns-in-Ok : goal.returns-in-Ok
returns-in-Ok g c = record {
  told = told_read (asked_of c.args.question.now) c.args.lump c.args.bytes.now c.in-Ok.demo c.footer.result (g.W.Sink.state c.args.out.now) (g.W.Sink.state c.tell_read.new.out)
      (g.E.Sink.state c.args.errors.now) c.tell_read.result ((c.in-Ok.ensures.ok c.in-Ok.demo).0 refl) c.footer.ensures c.requires.refusals c.tell_read.ensures;
  handed = answered_handed (read_text c.args.question.now.form c.args.question.now.path.now c.args.lump c.in-Ok.demo c.footer.result) true (g.W.Sink.state c.args.out.now) (g.W.Sink.state c.tell_read.new.out)
      c.tell_read.result _ c.tell_read.ensures;
}

pub returns-in-Err-clause-told : goal.returns-in-Err-clause-told
returns-in-Err-clause-told g c = record {
  texts = unread_texts (asked_of c.args.question.now) c.args.lump (fault_text c.in-Err.fault);
  is_read = false;
  is = refused c.in-Err.fault ((c.in-Err.ensures.refused c.in-Err.fault).0 refl);
  tells = c.tell_refused.ensures.told;
}
