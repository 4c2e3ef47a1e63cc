use Rattle.std.proofs.Common.{◌≡◌, false}
use Rattle.wad_dir.specs.Entries.{names}
use Rattle.lens_engines.specs.Check.{asked_of}
use Rattle.lens_engines.proofs.CheckLemmas.{SoFar}
use Rattle.lens_engines.proofs.check.check_set.Given as goal

abbrev pub invariant-levels : goal.invariant-levels
invariant-levels g l = record {
  sound : (g.W.Sink.state l.out).failed ≡ false;
  of_set : l.g-iterator.names ≡ names l.set;
  so_far : SoFar (asked_of l.question) l.set (g.W.Sink.state l.fn.out) (g.W.Sink.state l.out) l.g-iterator.from l.sum;
}
