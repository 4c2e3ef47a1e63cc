use Rattle.demo_engines.specs.Demos.{asked_of}
use Rattle.demo_engines.proofs.DemosLemmas.{SoFar}
use Rattle.demo_engines.proofs.demos.tell_set.Given as goal

abbrev pub invariant-entries : goal.invariant-entries
invariant-entries g l =
    SoFar (asked_of l.question) l.set (g.W.Sink.state l.fn.out) (g.W.Sink.state l.out) (g.E.Sink.state l.fn.errors) (g.E.Sink.state l.errors) l.g l.all_read
