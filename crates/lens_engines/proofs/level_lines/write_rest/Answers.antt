use Rattle.std.proofs.lemmas.Result.{err_from_is_err_and}
use Rattle.line_io.proofs.WriteLemmas.{Writes-stop}
use Rattle.lens_texts.specs.Head.{head_of}
use Rattle.lens_engines.specs.LevelLines.{wide_part}
use Rattle.lens_texts.proofs.WritingLemmas.{Writes-after}
use Rattle.lens_engines.proofs.level_lines.write_rest.Goals as goal

pub returns-in_err-write_unlooked_part : goal.returns-in_err-write_unlooked_part
returns-in_err-write_unlooked_part g c =
    let p = err_from_is_err_and c.from_residual.result c.from_residual.ensures.1 in
    let text = rw (c.counts.ensures, c.unlooked.ensures) at c.in_err-write_unlooked_part.ensures in
    rw (p.1, p.2) (Writes-stop (wide_part (head_of c.args.heading.now) c.args.sound_wide) text)

pub returns : goal.returns
returns g c = Writes-after (rw (c.counts.ensures, c.unlooked.ensures) at c.in_ok-write_unlooked_part.ensures) c.write_wide.ensures
