use Rattle.std.proofs.Common.{◌≡◌, ℕ, false, List, take}
use Rattle.map_audit.specs.Findings.{AuditHolds}
use Rattle.lens_texts.specs.declared.remark.Remark.TheVariants as remark
use Rattle.lens_engines.specs.LevelLines.{AreIndexes, code_lines}
use Rattle.lens_engines.proofs.ShownLemmas.{Shows}
use Rattle.lens_engines.proofs.level_lines.write_shown.Given as goal

abbrev pub invariant-shown : goal.invariant-shown
invariant-shown g l = record {
  sound : (g.W.Sink.state l.out).failed ≡ false;
  shows : (indexes : List ℕ) → AreIndexes (AuditHolds l.judged.level l.code) indexes
      → Shows (AuditHolds l.judged.level l.code) (λ i. g.F.WriteRemarks.text l.form l.judged.level (remark.Finding (record { code = l.code; index = i })))
      (code_lines (g.F.WriteRemarks.text l.form l.judged.level) l.code (take l.shown indexes)) (g.W.Sink.state l.fn.out) (g.W.Sink.state l.out) l.from l.left;
}

abbrev pub decreases-shown : goal.decreases-shown
decreases-shown g l = l.left
