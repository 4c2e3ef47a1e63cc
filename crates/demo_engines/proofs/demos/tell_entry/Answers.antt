use Rattle.std.proofs.Common.{Some, false, sym, ◌∙◌}
use Rattle.demo_engines.specs.Demos.{IsEntryTold, asked_of, other_name, outside, switched_off, unread_texts}
use Rattle.demo_engines.specs.RefusalText.{outside_text}
use Rattle.demo_engines.proofs.DemosLemmas.{empty_lump, lump_gone, some_lump, told_inside, told_nothing}
use Rattle.demo_engines.proofs.demos.tell_entry.Goals as goal

pub returns-then-not-is_demo_name-clause-told : goal.returns-then-not-is_demo_name-clause-told
returns-then-not-is_demo_name-clause-told g c =
    told_nothing (IsEntryTold (asked_of c.args.question.now) c.args.set.now c.args.g) (g.W.Sink.state c.args.out.now) (g.E.Sink.state c.args.errors.now) c.requires.answers c.requires.refusals
    (other_name c.name_at-name.result c.name_at-name.ensures (sym c.is_demo_name.ensures ∙ c.if-not-is_demo_name.true))

pub returns-then-is_empty-clause-told : goal.returns-then-is_empty-clause-told
returns-then-is_empty-clause-told g c =
    told_nothing (IsEntryTold (asked_of c.args.question.now) c.args.set.now c.args.g) (g.W.Sink.state c.args.out.now) (g.E.Sink.state c.args.errors.now) c.requires.answers c.requires.refusals
    (switched_off c.name_at-name.result c.name_at-name.ensures (sym c.is_demo_name.ensures ∙ c.if-not-is_demo_name.false)
    (empty_lump c.args.set.now c.args.g c.in-Ok.lump.now (sym c.is_empty.ensures ∙ c.if-is_empty.true) c.in-Ok.ensures.ok))

pub returns-else-is_empty-clause-told : goal.returns-else-is_empty-clause-told
returns-else-is_empty-clause-told g c =
    told_inside (asked_of c.args.question.now) c.args.set.now c.args.g c.name_at-name.result c.in-Ok.lump.now (g.W.Sink.state c.args.out.now) (g.W.Sink.state c.tell_demo.new.out)
    (g.E.Sink.state c.args.errors.now) (g.E.Sink.state c.tell_demo.new.errors) c.tell_demo.result
    c.name_at-name.ensures (sym c.is_demo_name.ensures ∙ c.if-not-is_demo_name.false) c.in-Ok.ensures.ok
    (some_lump c.in-Ok.lump.now (sym c.is_empty.ensures ∙ c.if-is_empty.false)) c.tell_demo.ensures.told

pub returns-in-Err-clause-told : goal.returns-in-Err-clause-told
returns-in-Err-clause-told g c = record {
  texts = unread_texts (asked_of c.args.question.now) (Some c.name_at-name.result) outside_text;
  is_read = false;
  is = outside c.name_at-name.result c.name_at-name.ensures (sym c.is_demo_name.ensures ∙ c.if-not-is_demo_name.false)
      (lump_gone c.args.set.now c.args.g c.in-Err.field-0 c.requires.there c.in-Err.ensures.no_such c.in-Err.ensures.outside);
  tells = c.tell_refused.ensures.told;
}
