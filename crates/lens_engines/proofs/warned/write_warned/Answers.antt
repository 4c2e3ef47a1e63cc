use Rattle.std.proofs.Common.{◌≡◌, ◌+◌, drop, Some, sym, ap, ◌∙◌}
use Rattle.std.specs.List.{flat_map, slice_get}
use Rattle.std.proofs.lemmas.Option.{slice_get-get_or}
use Rattle.std.proofs.lemmas.Result.{err_from_is_err_and}
use Rattle.line_io.proofs.WriteProgressLemmas.{SoFar-more, SoFar-stop}
use Rattle.lens_engines.specs.WarnedText.{warned_part}
use Rattle.lens_engines.proofs.WarnedLemmas.{parts-drop}
use Rattle.lens_engines.proofs.warned.write_warned.Goals as goal

pub returns-in_err-write_part : goal.returns-in_err-write_part
returns-in_err-write_part g c =
    let p = err_from_is_err_and c.from_residual.result c.from_residual.ensures.1 in
    let i = c.codes.i in
    let all = c.args.all.now in
    let at : slice_get all i ≡ Some c.index-all-i.result = slice_get-get_or all i c.index-all-i.result c.codes-test.true ∙ ap (λ w. Some w) (sym c.index-all-i.is) in
    let part = warned_part (g.F.WriteRemarks.text c.args.form.now c.args.level.now) (g.F.WriteRemarks.left c.args.form.now) in
    rw (p.1, p.2) (SoFar-stop (part c.index-all-i.result) (flat_map part (drop (i + 1) all)) c.codes.invariant.so_far
    (parts-drop part all i c.index-all-i.result at) c.in_err-write_part.ensures)

pub codes-preserved : goal.codes-preserved
codes-preserved g c =
    let i = c.codes.i in
    let all = c.args.all.now in
    let at : slice_get all i ≡ Some c.index-all-i.result = slice_get-get_or all i c.index-all-i.result c.codes-test.true ∙ ap (λ w. Some w) (sym c.index-all-i.is) in
    let part = warned_part (g.F.WriteRemarks.text c.args.form.now c.args.level.now) (g.F.WriteRemarks.left c.args.form.now) in
    record {
      sound = c.in_ok-write_part.ensures.ends.sound;
      so_far = SoFar-more _ (part c.index-all-i.result) (flat_map part (drop (i + 1) all)) c.codes.invariant.so_far
          (parts-drop part all i c.index-all-i.result at) c.in_ok-write_part.ensures.takes.whole;
    }
