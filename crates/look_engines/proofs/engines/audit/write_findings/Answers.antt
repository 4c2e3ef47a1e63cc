use Rattle.std.proofs.Common.{◌≡◌, ◌+◌, drop, Some, None, refl, sym, ◌∙◌}
use Rattle.std.proofs.lemmas.Result.{err_from_is_err_and}
use Rattle.std.specs.List.{slice_get, flat_map}
use Rattle.line_io.proofs.WriteProgressLemmas.{SoFar-more, SoFar-stop, SoFar-end}
use Rattle.look_engines.specs.Engines.Audit.{finding_line}
use Rattle.look_engines.proofs.engines.AuditLemmas.{finding_lines-drop}
use Rattle.line_io.proofs.RestLemmas.{drop_past}
use Rattle.look_engines.proofs.engines.audit.write_findings.Goals as goal

pub returns-in_err-write_finding : goal.returns-in_err-write_finding
returns-in_err-write_finding g c =
    let p = err_from_is_err_and c.from_residual.result c.from_residual.ensures.1 in
    let found = c.args.report.now in
    let i = c.findings.i in
    let f = c.in-Some.finding in
    let at : slice_get found i ≡ Some f = sym c.get.ensures ∙ c.in-Some.is in
    rw (p.1, p.2) (SoFar-stop (finding_line f) (flat_map finding_line (drop (i + 1) found))
    c.findings.invariant.so_far (finding_lines-drop found i f at) c.in_err-write_finding.ensures)

pub findings-preserved : goal.findings-preserved
findings-preserved g c =
    let found = c.args.report.now in
    let i = c.findings.i in
    let f = c.in-Some.finding in
    let at : slice_get found i ≡ Some f = sym c.get.ensures ∙ c.in-Some.is in
    record {
      sound = c.in_ok-write_finding.ensures.ends.sound;
      so_far = SoFar-more _ (finding_line f) (flat_map finding_line (drop (i + 1) found))
          c.findings.invariant.so_far (finding_lines-drop found i f at) c.in_ok-write_finding.ensures.takes.whole;
    }

pub returns-in_default : goal.returns-in_default
returns-in_default g c =
    let at : slice_get c.args.report.now c.findings.i ≡ None = sym c.get.ensures ∙ c.in_default.is in
    SoFar-end tt c.findings.invariant.so_far (rw (drop_past c.args.report.now c.findings.i at) refl) c.findings.invariant.sound
