use Rattle.std.specs.Prelude.{codes}
use Rattle.std.proofs.Common.{[], ◌++◌}
use Rattle.std.proofs.lemmas.Result.{err_from_is_err_and}
use Rattle.line_io.proofs.WriteLemmas.{Writes-stop}
use Rattle.lens_engines.specs.Unlooked.{names_text}
use Rattle.lens_engines.specs.UnlookedText.{causes_text}
use Rattle.lens_texts.proofs.WritingLemmas.{Writes-after, Writes-later}
use Rattle.lens_engines.proofs.unlooked_text.write_cause.Goals as goal

pub returns-in_err-emit : goal.returns-in_err-emit
returns-in_err-emit g c =
    let p = err_from_is_err_and c.from_residual.result c.from_residual.ensures.1 in
    rw (p.1, p.2) (Writes-stop (names_text (codes " ") [] c.args.named.now ++ causes_text c.args.causes.now) c.in_err-emit.ensures)

pub returns-in_err-write_names : goal.returns-in_err-write_names
returns-in_err-write_names g c =
    let p = err_from_is_err_and c.from_residual-in_err-write_names.result c.from_residual-in_err-write_names.ensures.1 in
    rw (p.1, p.2) (Writes-later c.in_ok-emit.ensures (Writes-stop {U = Unit {0}} (causes_text c.args.causes.now) c.in_err-write_names.ensures))

pub returns : goal.returns
returns g c = Writes-after c.in_ok-emit.ensures (Writes-after c.in_ok-write_names.ensures c.write_causes.ensures)
