use Rattle.std.proofs.Common.{◌+◌, drop}
use Rattle.std.specs.List.{flat_map}
use Rattle.std.proofs.lemmas.Option.{slice_get-get_or}
use Rattle.std.proofs.lemmas.Result.{err_from_is_err_and}
use Rattle.line_io.proofs.WriteProgressLemmas.{SoFar-more, SoFar-stop}
use Rattle.lens_texts.specs.declared.remark.Remark.TheVariants as remark
use Rattle.map_warnings.specs.declared.warning.Warning.{Warning}
use Rattle.lens_engines.proofs.WarnedLemmas.{parts-drop}
use Rattle.lens_engines.proofs.warned.write_first.Goals as goal

pub returns-in_err-write_one : goal.returns-in_err-write_one
returns-in_err-write_one g c =
    let p = err_from_is_err_and c.from_residual.result c.from_residual.ensures.1 in
    let i = c.first.i in
    let first = c.args.first.now in
    let line = λ (w : Warning). g.F.WriteRemarks.text c.args.form.now c.args.level.now (remark.Warning w) in
    rw (p.1, p.2) (SoFar-stop _ (flat_map line (drop (i + 1) first)) c.first.invariant.so_far
    (parts-drop line first i _ (slice_get-get_or first i _ c.first-test.true)) c.in_err-write_one.ensures)

pub first-preserved : goal.first-preserved
first-preserved g c =
    let i = c.first.i in
    let first = c.args.first.now in
    let line = λ (w : Warning). g.F.WriteRemarks.text c.args.form.now c.args.level.now (remark.Warning w) in
    record {
      sound = c.in_ok-write_one.ensures.ends.sound;
      so_far = SoFar-more _ _ (flat_map line (drop (i + 1) first)) c.first.invariant.so_far
          (parts-drop line first i _ (slice_get-get_or first i _ c.first-test.true)) c.in_ok-write_one.ensures.takes.whole;
    }
