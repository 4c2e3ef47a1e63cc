use Rattle.std.proofs.Common.{length, ap, ◌∙◌, arith, rules, FitsSigned, w64}
use Rattle.std.proofs.lemmas.Int.{ints, to_z-of_z}
use Rattle.std.proofs.lemmas.List.{length-append}
use Rattle.std.specs.Fmt.{signed_decimal}
use Rattle.map_level.proofs.IndexTextLemmas.{signed_decimal-short}
use Rattle.look_engines.proofs.engines.show.prepend_number.Goals as goal

pub returns-clause-length : goal.returns-clause-length
returns-clause-length c =
    let number = c.from.result in
    let fits : FitsSigned w64 number = search rules in
    let text = simp to_z-of_z at c.prepend_integer.ensures.text in
    let long = ap length text ∙ length-append (signed_decimal number) c.args.line.now in
    let short = signed_decimal-short number (omega (arith, ints)) (omega (arith, ints)) in
    omega (arith, long, short)
