use Rattle.std.proofs.Common.{◌<◌, ◌+◌, ◌∙◌, drop, sym, arith}
use Rattle.std.proofs.lemmas.Result.{err_from_is_err_and}
use Rattle.std.specs.List.{flat_map}
use Rattle.line_io.proofs.WriteProgressLemmas.{SoFar-more, SoFar-stop}
use Rattle.map_level.specs.declared.finding.Code.{Code}
use Rattle.map_level.specs.declared.search.TheConstants.{CODE_COUNT}
use Rattle.lens_engines.specs.Counts.{finding_order}
use Rattle.lens_engines.specs.LevelLines.{code_part}
use Rattle.lens_engines.proofs.CodeLemmas.{codes-drop, codes-end, codes-none}
use Rattle.lens_engines.proofs.level_lines.write_codes.Goals as goal

pub codes-init : goal.codes-init
codes-init g c = record { sound = c.requires.sound; so_far = λ told are counted. codes-none _ _ c.args.most told _ }

pub returns-in_err-write_code-clause-text : goal.returns-in_err-write_code-clause-text
returns-in_err-write_code-clause-text g c =
    let p = err_from_is_err_and c.from_residual.result c.from_residual.ensures.1 in
    let i = c.codes.i in
    let code = c.code_at-code.result in
    let below : i < CODE_COUNT = omega (arith, c.codes-test.true) in
    let count = rw c.counts-counts.ensures at c.get-count.ensures in
    rw (p.1, p.2) (λ told are counted.
    let part = λ (code : Code). code_part (g.F.WriteRemarks.text c.args.form.now c.args.judged.now.level) (g.F.WriteRemarks.left c.args.form.now) c.args.most code (told code) in
    SoFar-stop (part code) (flat_map part (drop (i + 1) finding_order)) (c.codes.invariant.so_far told are counted) (codes-drop part i code below c.code_at-code.ensures)
    (c.in_err-write_code.ensures.text (told code) (λ some. are code (omega (arith, some, counted code, count))) (counted code ∙ sym count)))

pub codes-preserved : goal.codes-preserved
codes-preserved g c =
    let i = c.codes.i in
    let code = c.code_at-code.result in
    let below : i < CODE_COUNT = omega (arith, c.codes-test.true) in
    let count = rw c.counts-counts.ensures at c.get-count.ensures in
    record {
      sound = c.in_ok-write_code.ensures.ends.sound;
      so_far = λ told are counted.
          let part = λ (code : Code). code_part (g.F.WriteRemarks.text c.args.form.now c.args.judged.now.level) (g.F.WriteRemarks.left c.args.form.now) c.args.most code (told code) in
          SoFar-more _ (part code) (flat_map part (drop (i + 1) finding_order)) (c.codes.invariant.so_far told are counted) (codes-drop part i code below c.code_at-code.ensures)
          (c.in_ok-write_code.ensures.text (told code) (λ some. are code (omega (arith, some, counted code, count))) (counted code ∙ sym count)).takes.whole;
    }

pub returns-clause-text : goal.returns-clause-text
returns-clause-text g c = λ told are counted. codes-end _ c.codes.i tt (c.codes.invariant.so_far told are counted) (omega (arith, c.codes-test.false)) c.codes.invariant.sound
