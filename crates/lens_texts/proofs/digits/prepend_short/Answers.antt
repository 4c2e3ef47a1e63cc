use Rattle.std.proofs.Common.{◌≤◌, length, decimal, ap, ◌∙◌, arith}
use Rattle.std.proofs.lemmas.Fmt.{length-decimal-le}
use Rattle.std.proofs.lemmas.List.{length-append}
use Rattle.lens_texts.proofs.digits.prepend_short.Goals as goal

pub returns-clause-length : goal.returns-clause-length
returns-clause-length c =
    let number = c.from.result in
    let digits : length (decimal number) ≤ 5 = length-decimal-le 5 number (omega arith) (omega arith) (omega arith) in
    let long = ap length c.prepend_natural.ensures.text ∙ length-append (decimal number) c.args.line.now in
    omega (arith, long)
