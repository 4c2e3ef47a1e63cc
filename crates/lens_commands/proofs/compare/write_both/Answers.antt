use Rattle.std.proofs.lemmas.Result.{err_from_is_err_and}
use Rattle.line_io.proofs.WriteLemmas.{Writes-stop}
use Rattle.lens_texts.proofs.WritingLemmas.{Writes-after}
use Rattle.lens_commands.proofs.CompareLemmas.{told_some}
use Rattle.lens_commands.proofs.compare.write_both.Goals as goal

pub returns-in_err-write_given : goal.returns-in_err-write_given
returns-in_err-write_given g c =
    let p = err_from_is_err_and c.from_residual.result c.from_residual.ensures.1 in
    let first = c.in_err-write_given.ensures in
    let second = told_some c.read_or_refused.ensures.either c.args.path_b.now c.args.b.now in
    rw (p.1, p.2) (record { text_a = first.0; text_b = second.0; of_a = first.1; of_b = second.1; told = Writes-stop second.0 first.2 })

pub returns : goal.returns
returns g c =
    let first = c.in_ok-write_given.ensures in
    let second = c.write_given-2.ensures in
    record { text_a = first.0; text_b = second.0; of_a = first.1; of_b = second.1; told = Writes-after first.2 second.2 }
