use Rattle.std.proofs.Common.{◌≡◌, ◌≤◌, false, drop, length, take}
use Rattle.level_codes.specs.Codes.{report_order}
use Rattle.line_io.proofs.WriteProgressLemmas.{SoFar}
use Rattle.lens_engines.specs.Objects.{count_members, counts_text}
use Rattle.lens_engines.proofs.ObjectLemmas.{separated}
use Rattle.lens_engines.proofs.object.write_codes.Given as goal

abbrev pub invariant-codes : goal.invariant-codes
invariant-codes g l = record {
  sound : (g.W.Sink.state l.out).failed ≡ false;
  short : length l.separator ≤ 1;
  so_far : SoFar (counts_text l.counts (drop l.from (take l.to report_order))) (g.W.Sink.state l.fn.out) (g.W.Sink.state l.out)
      (separated l.separator (count_members l.counts (drop l.rank (take l.to report_order))));
}
