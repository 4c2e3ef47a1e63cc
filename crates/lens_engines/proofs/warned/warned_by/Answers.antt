use Rattle.std.proofs.Common.{◌≡◌, ◌<◌, ◌≤◌, drop, take, ap, ◌∙◌, arith, sym}
use Rattle.level_codes.specs.Codes.{report_order}
use Rattle.level_codes.specs.declared.table.TheConstants.{REPORT_COUNT}
use Rattle.map_level.specs.declared.search.TheConstants.{CODE_COUNT}
use Rattle.lens_engines.proofs.OrderLemmas.{warnings-behind}
use Rattle.lens_engines.proofs.WarnedLemmas.{no_finding_behind, warned_more, warned_none}
use Rattle.lens_engines.proofs.warned.warned_by.Goals as goal
use Rattle.lens_engines.proofs.warned.warned_by.Goals.{in-Warning+in_ok-push_code, in_default}

pub codes-init : goal.codes-init
codes-init g c = rw c.new-all.ensures.items (warned_none c.args.ignored.now c.args.resources.now c.args.checks.now c.args.most)

pub codes-preserved : goal.codes-preserved
codes-preserved g c =
    let rank = c.codes.rank in
    let behind : CODE_COUNT ≤ rank = omega (arith, c.codes.auto.rank) in
    let below : rank < REPORT_COUNT = omega (arith, c.codes-test.true) in
    elim c.match-at.branch [
      | in-Warning+in_ok-push_code w ↦
          let is = sym c.at.ensures ∙ w.in-Warning.is in
          rw w.all-is (warned_more c.args.ignored.now c.args.resources.now c.args.checks.now c.args.most rank w.in-Warning.code _ _ behind below is c.codes.invariant w.in_ok-push_code.ensures)
      | in_default w ↦ absurd (no_finding_behind rank w.in_default.field-0 behind below (sym c.at.ensures ∙ w.in_default.is))
    ]

pub returns : goal.returns
returns g c =
    let last : c.codes.rank ≡ REPORT_COUNT = omega (arith, c.codes-test.false, c.codes.auto.rank) in
    record { codes = c.codes.invariant.codes ∙ ap (λ n. drop CODE_COUNT (take n report_order)) last ∙ warnings-behind; each = c.codes.invariant.each }
