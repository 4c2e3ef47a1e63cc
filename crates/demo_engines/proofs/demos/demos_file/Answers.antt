use Rattle.std.proofs.Common.{sym, ◌∙◌}
use Rattle.demo_engines.specs.Demos.{asked_of}
use Rattle.demo_engines.proofs.DemosLemmas.{one_file, wad_told}
use Rattle.demo_engines.proofs.demos.demos_file.Goals as goal

pub returns-in-Ok-clause-told : goal.returns-in-Ok-clause-told
returns-in-Ok-clause-told g c =
    wad_told g.W.Sink.state g.E.Sink.state (asked_of c.args.question.now) c.args.bytes.now c.args.out.now c.tell_set.new.out c.args.errors.now c.tell_set.new.errors c.tell_set.result
    (sym c.is_wad.ensures ∙ c.if-not-is_wad.false)
    (one_file (asked_of c.args.question.now) c.args.bytes.now c.in-Ok.set (g.W.Sink.state c.args.out.now) (g.W.Sink.state c.tell_set.new.out)
    (g.E.Sink.state c.args.errors.now) (g.E.Sink.state c.tell_set.new.errors) c.tell_set.result
    c.in-Ok.ensures.bytes c.in-Ok.ensures.read c.tell_set.ensures.told)
