use Rattle.std.proofs.Common.{◌≡◌, ◌-◌, ◌^◌, false, List}
use Rattle.line_io.proofs.WriteProgressLemmas.{SoFar}
use Rattle.map_audit.specs.Findings.{AuditHolds}
use Rattle.map_level.specs.Findings.{AreFindings}
use Rattle.map_level.specs.declared.finding.Finding.{Finding}
use Rattle.map_picture.specs.Marks.{code_marks}
use Rattle.map_picture.proofs.MarkLemmas.{code_marks_from}
use Rattle.map_picture.proofs.marks.write_each.Given as goal

abbrev pub invariant-finds : goal.invariant-finds
invariant-finds g l = record {
  sound : (g.W.Sink.state l.out).failed ≡ false;
  so_far : (found : List Finding) → AreFindings (AuditHolds l.counted) found
      → SoFar (code_marks l.counted l.code found) (g.W.Sink.state l.fn.out) (g.W.Sink.state l.out) (code_marks_from l.counted l.code l.from found);
}

abbrev pub decreases-finds : goal.decreases-finds
decreases-finds g l = 2 ^ 32 - l.from
