use Rattle.std.proofs.Common.{length, ap, ◌∙◌, arith, rules, FitsSigned, w16, w64}
use Rattle.std.proofs.lemmas.Int.{ints, to_z-of_z}
use Rattle.std.proofs.lemmas.List.{length-append}
use Rattle.std.specs.Fmt.{signed_decimal}
use Rattle.map_level.proofs.IndexTextLemmas.{index-short}
use Rattle.look_engines.proofs.engines.show.prepend_index.Goals as goal

pub returns-clause-length : goal.returns-clause-length
returns-clause-length c =
    let word : FitsSigned w16 c.args.stored.now = search rules in
    let number = c.from.result in
    let fits : FitsSigned w64 number = search rules in
    let value = simp to_z-of_z at c.number.ensures.value in
    let text = simp to_z-of_z at c.prepend_integer.ensures.text in
    let long = ap length text ∙ length-append (signed_decimal number) c.args.line.now in
    let short = index-short c.args.reading c.args.stored.now number word (omega (arith, ints, value)) (omega (arith, ints)) in
    omega (arith, long, short)
