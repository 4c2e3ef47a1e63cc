use Rattle.std.proofs.Common.{◌≤◌, length, decimal, ap, ◌∙◌, arith}
use Rattle.std.proofs.lemmas.Fmt.{length-decimal-le}
use Rattle.std.proofs.lemmas.List.{length-append}
use Rattle.lens_texts.proofs.digits.prepend_count.Goals as goal

pub returns-clause-length : goal.returns-clause-length
returns-clause-length c =
    let count = c.args.count in
    let digits : length (decimal count) ≤ 10 = length-decimal-le 10 count (omega arith) (omega arith) (omega arith) in
    let long = ap length c.prepend_natural.ensures.text ∙ length-append (decimal count) c.args.line.now in
    omega (arith, long)
