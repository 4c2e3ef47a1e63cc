use Rattle.demo_engines.specs.Demos.{asked_of}
use Rattle.demo_engines.proofs.DemosLemmas.{SoFar-entry, SoFar-start, entry_stopped, handed_after}
use Rattle.demo_engines.proofs.demos.tell_set.Goals as goal

pub entries-init : goal.entries-init
entries-init g c = SoFar-start (asked_of c.args.question.now) c.args.set.now (g.W.Sink.state c.args.out.now) (g.E.Sink.state c.args.errors.now) c.requires.answers c.requires.refusals

pub returns-in-Err : goal.returns-in-Err
returns-in-Err g c =
    rw c.after.ensures (record {
      told = record {
        all = tt;
        some = entry_stopped (asked_of c.args.question.now) c.args.set.now (g.W.Sink.state c.args.out.now) (g.W.Sink.state c.entries.out) (g.W.Sink.state c.tell_entry.new.out)
            (g.E.Sink.state c.args.errors.now) (g.E.Sink.state c.entries.errors) (g.E.Sink.state c.tell_entry.new.errors)
            c.entries.g c.entries.all_read c.in-Err.fault c.entries.invariant c.in-Err.ensures.told;
      };
      handed = handed_after c.entries.all_read c.in-Err.fault _ c.in-Err.ensures.handed;
    })

pub entries-preserved : goal.entries-preserved
entries-preserved g c =
    SoFar-entry (asked_of c.args.question.now) c.args.set.now (g.W.Sink.state c.args.out.now) (g.W.Sink.state c.entries.out) (g.W.Sink.state c.tell_entry.new.out)
    (g.E.Sink.state c.args.errors.now) (g.E.Sink.state c.entries.errors) (g.E.Sink.state c.tell_entry.new.errors)
    c.entries.g c.entries.all_read c.in-Ok.one c.entries.invariant c.in-Ok.ensures.told
