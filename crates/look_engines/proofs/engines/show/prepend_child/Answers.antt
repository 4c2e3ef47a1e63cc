use Rattle.std.proofs.Common.{◌≤◌, length, decimal, ap, ◌∙◌, arith}
use Rattle.std.proofs.lemmas.Fmt.{length-decimal-le}
use Rattle.std.proofs.lemmas.List.{length-append}
use Rattle.look_engines.proofs.engines.show.prepend_child.Goals as goal

pub returns-clause-length : goal.returns-clause-length
returns-clause-length c =
    let child = c.from.result in
    let digits : length (decimal child) ≤ 5 = length-decimal-le 5 child (omega arith) (omega arith) (omega arith) in
    let long = ap length c.prepend_natural.ensures.text ∙ length-append (decimal child) c.args.line.now in
    omega (arith, long)
