use Rattle.std.proofs.Common.{refl}
use Rattle.lens_calls.proofs.CompareLemmas.{appended}
use Rattle.lens_calls.proofs.compare.tell_none.Goals as goal

pub returns-in-Ok-clause-told : goal.returns-in-Ok-clause-told
returns-in-Ok-clause-told g c =
    let first = c.tell_file.ensures in
    let second = c.in-Ok.ensures in
    record {
      text_a = first.0;
      text_b = second.0;
      of_a = first.1;
      of_b = second.1;
      message = appended (g.E.Sink.state c.args.errors.now) (g.E.Sink.state c.tell_file.new.errors) (g.E.Sink.state c.tell_file-2.new.errors) first.0 second.0 c.tell_file.result
          c.in-Ok.field-0 c.if-is_err.ensures.value first.2 second.2;
      says = refl;
    }
