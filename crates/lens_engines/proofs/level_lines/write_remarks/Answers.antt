use Rattle.std.proofs.Common.{◌++◌}
use Rattle.std.proofs.lemmas.Result.{err_from_is_err_and}
use Rattle.line_io.proofs.WriteLemmas.{Writes-stop, Writes-then}
use Rattle.lens_texts.specs.Head.{head_of}
use Rattle.lens_engines.specs.LevelLines.{wide_part}
use Rattle.lens_engines.specs.UnlookedText.{unlooked_part}
use Rattle.lens_engines.proofs.level_lines.write_remarks.Goals as goal

pub returns-in_err-write_found-clause-text : goal.returns-in_err-write_found-clause-text
returns-in_err-write_found-clause-text g c =
    let p = err_from_is_err_and c.from_residual.result c.from_residual.ensures.1 in
    let head = head_of c.args.heading.now in
    rw (p.1, p.2) (λ told are counted. Writes-stop (unlooked_part head c.args.judged.now.counts c.args.judged.now.unlooked ++ wide_part head c.args.sound_wide)
    (c.in_err-write_found.ensures.text told are counted))

pub returns-clause-text : goal.returns-clause-text
returns-clause-text g c =
    λ told are counted. Writes-then _ _ _ _ _ (c.in_ok-write_found.ensures.text told are counted).takes.whole c.write_rest.ensures
