use Rattle.std.proofs.Common.{◌≡◌, false, List}
use Rattle.line_io.proofs.WriteProgressLemmas.{SoFar}
use Rattle.map_audit.specs.Findings.{AuditHolds}
use Rattle.map_level.specs.Findings.{AreFindings}
use Rattle.map_level.specs.declared.finding.Finding.{Finding}
use Rattle.map_picture.specs.Marks.{marks}
use Rattle.map_picture.proofs.MarkLemmas.{marks_from}
use Rattle.map_picture.proofs.marks.write_marks.Given as goal

abbrev pub invariant-codes : goal.invariant-codes
invariant-codes g l = record {
  sound : (g.W.Sink.state l.out).failed ≡ false;
  so_far : (found : List Finding) → AreFindings (AuditHolds l.counted) found
      → SoFar (marks l.counted found) (g.W.Sink.state l.fn.out) (g.W.Sink.state l.out) (marks_from l.counted l.code-index found);
}
