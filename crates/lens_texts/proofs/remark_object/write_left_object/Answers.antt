use Rattle.std.proofs.lemmas.Result.{err_from_is_err_and}
use Rattle.line_io.proofs.WriteLemmas.{Writes-stop}
use Rattle.lens_texts.proofs.WritingLemmas.{Writes-after}
use Rattle.std.proofs.Common.{◌≡◌, ◌++◌, rules}
use Rattle.std.specs.Prelude.{codes}
use Rattle.std.specs.Fmt.{decimal}
use Rattle.level_codes.specs.Codes.{code_name}
use Rattle.lens_texts.proofs.remark_object.write_left_object.Goals as goal

pub returns-in_err-write_front : goal.returns-in_err-write_front
returns-in_err-write_front g c =
    let p = err_from_is_err_and c.from_residual.result c.from_residual.ensures.1 in
    rw (p.1, p.2) (Writes-stop (codes ",\"code\":\"" ++ (code_name c.args.code ++ (codes "\",\"more\":" ++ (decimal c.args.left ++ codes "}\n")))) c.in_err-write_front.ensures)

pub returns : goal.returns
returns g c =
    let line : c.as_bytes.result.now ≡ codes ",\"code\":\"" ++ (code_name c.args.code ++ (codes "\",\"more\":" ++ (decimal c.args.left ++ codes "}\n"))) = search rules in
    Writes-after c.in_ok-write_front.ensures (rw line at c.emit.ensures)
