use Rattle.std.proofs.Common.{◌≡◌, ℕ, false, List, drop}
use Rattle.std.specs.List.{flat_map}
use Rattle.line_io.proofs.WriteProgressLemmas.{SoFar}
use Rattle.map_audit.specs.Findings.{AuditHolds}
use Rattle.map_level.specs.declared.finding.Code.{Code}
use Rattle.lens_engines.specs.Counts.{finding_order}
use Rattle.lens_engines.specs.LevelLines.{AreCounted, AreShown, code_part, findings_part}
use Rattle.lens_engines.proofs.level_lines.write_codes.Given as goal

abbrev pub invariant-codes : goal.invariant-codes
invariant-codes g l = record {
  sound : (g.W.Sink.state l.out).failed ≡ false;
  so_far : (told : Code → List ℕ) → AreShown (AuditHolds l.judged.level) told → AreCounted l.judged.counts told
      → SoFar (findings_part (g.F.WriteRemarks.text l.form l.judged.level) (g.F.WriteRemarks.left l.form) l.most told) (g.W.Sink.state l.fn.out) (g.W.Sink.state l.out)
      (flat_map (λ code. code_part (g.F.WriteRemarks.text l.form l.judged.level) (g.F.WriteRemarks.left l.form) l.most code (told code)) (drop l.i finding_order));
}
