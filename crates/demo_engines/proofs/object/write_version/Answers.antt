use Rattle.std.proofs.Common.{◌++◌}
use Rattle.demo_engines.specs.Objects.{engine_member, wrapper_members}
use Rattle.std.proofs.lemmas.Result.{err_from_is_err_and}
use Rattle.line_io.proofs.WriteLemmas.{Writes-stop}
use Rattle.lens_texts.proofs.WritingLemmas.{Writes-after, Writes-later}
use Rattle.demo_engines.proofs.object.write_version.Goals as goal

pub returns-in_err-write_number : goal.returns-in_err-write_number
returns-in_err-write_number g c =
    let p = err_from_is_err_and c.from_residual.result c.from_residual.ensures.1 in
    rw (p.1, p.2) (Writes-stop (engine_member c.args.demo.now.layout.engine ++ wrapper_members c.args.demo.now.wrapper) (rw (c.from.ensures, c.version.ensures) at c.in_err-write_number.ensures))

pub returns-in_err-write_engine : goal.returns-in_err-write_engine
returns-in_err-write_engine g c =
    let p = err_from_is_err_and c.from_residual-in_err-write_engine.result c.from_residual-in_err-write_engine.ensures.1 in
    rw (p.1, p.2) (Writes-later (rw (c.from.ensures, c.version.ensures) at c.in_ok-write_number.ensures) (Writes-stop {U = Unit {0}} (wrapper_members c.args.demo.now.wrapper) (rw c.layout.ensures at c.in_err-write_engine.ensures)))

pub returns : goal.returns
returns g c = Writes-after (rw (c.from.ensures, c.version.ensures) at c.in_ok-write_number.ensures) (Writes-after (rw c.layout.ensures at c.in_ok-write_engine.ensures) (rw c.wrapper.ensures at c.write_wrapper.ensures))
