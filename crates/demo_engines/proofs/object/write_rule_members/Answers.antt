use Rattle.std.specs.Prelude.{codes}
use Rattle.std.proofs.Common.{◌++◌}
use Rattle.std.proofs.lemmas.Result.{err_from_is_err_and}
use Rattle.line_io.proofs.WriteLemmas.{Writes-stop}
use Rattle.lens_texts.proofs.WritingLemmas.{Writes-after}
use Rattle.lens_texts.specs.LevelObject.{number_member}
use Rattle.demo_engines.proofs.object.write_rule_members.Goals as goal

pub returns-in_err-emit : goal.returns-in_err-emit
returns-in_err-emit g c =
    let p = err_from_is_err_and c.from_residual.result c.from_residual.ensures.1 in
    let first = rw (c.as_bytes.ensures, c.prepend_first_rules.ensures) at c.in_err-emit.ensures in
    rw (p.1, p.2) (Writes-stop (number_member (codes "fast") c.args.game.now.fast ++ (number_member (codes "nomonsters") c.args.game.now.no_monsters
    ++ number_member (codes "viewpoint") c.args.game.now.viewpoint)) first)

pub returns : goal.returns
returns g c =
    let first = rw (c.as_bytes.ensures, c.prepend_first_rules.ensures) at c.in_ok-emit.ensures in
    let last = rw (c.as_bytes-2.ensures, c.prepend_last_rules.ensures) at c.emit-2.ensures in
    Writes-after first last
