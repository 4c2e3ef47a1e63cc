use Rattle.std.proofs.Common.{◌≡◌, false, drop}
use Rattle.std.specs.List.{flat_map}
use Rattle.line_io.proofs.WriteProgressLemmas.{SoFar}
use Rattle.look_engines.specs.Engines.Audit.{finding_line}
use Rattle.look_engines.proofs.engines.audit.write_findings.Given as goal

abbrev pub invariant-findings : goal.invariant-findings
invariant-findings g l = record {
  sound : (g.W.Sink.state l.out).failed ≡ false;
  so_far : SoFar (flat_map finding_line l.report) (g.W.Sink.state l.fn.out) (g.W.Sink.state l.out) (flat_map finding_line (drop l.i l.report));
}
