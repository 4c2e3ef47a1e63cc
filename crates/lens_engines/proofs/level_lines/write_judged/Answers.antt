use Rattle.std.proofs.lemmas.Result.{err_from_is_err_and}
use Rattle.line_io.proofs.WriteLemmas.{Writes-stop}
use Rattle.lens_texts.proofs.WritingLemmas.{Writes-after}
use Rattle.lens_texts.specs.Head.{head_of}
use Rattle.lens_engines.specs.LevelLines.{remarks_text}
use Rattle.lens_engines.proofs.level_lines.write_judged.Goals as goal

pub returns-in_err-write_unbuilt-clause-text : goal.returns-in_err-write_unbuilt-clause-text
returns-in_err-write_unbuilt-clause-text g c =
    let p = err_from_is_err_and c.from_residual.result c.from_residual.ensures.1 in
    rw (p.1, p.2) (λ told are counted.
    Writes-stop (remarks_text (head_of c.args.heading.now) c.args.most c.args.judged.now told c.args.sound_wide)
    (rw c.level.ensures at c.in_err-write_unbuilt.ensures))

pub returns-clause-text : goal.returns-clause-text
returns-clause-text g c =
    λ told are counted. Writes-after (rw c.level.ensures at c.in_ok-write_unbuilt.ensures) (c.write_remarks.ensures.text told are counted)
