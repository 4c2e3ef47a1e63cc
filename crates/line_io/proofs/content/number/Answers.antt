use Rattle.std.proofs.Common.{rules, w32}
use Rattle.std.proofs.lemmas.Int.{to_z-of_z}
use Rattle.std.proofs.lemmas.List.{take_rest}
use Rattle.std.specs.Int.RustNames.{FitsSigned}
use Rattle.line_io.proofs.ReadingLemmas.{number_found}
use Rattle.line_io.proofs.content.number.Goals as goal

pub returns : goal.returns
returns c =
    let unsigned = c.after_sign-negative.result.1.now in
    let digits = c.digits-count.ensures in
    let fits : FitsSigned w32 c.signed.result = search rules in
    let found =
    number_found _ unsigned c.after_sign-negative.result.0 c.digits-count.result.0
    c.digits-count.result.1 c.signed.result c.is_plain-plain.result
    c.after_sign-negative.ensures.spelled digits.within c.if-count-eq0.false digits.each
    digits.end digits.value c.signed.ensures c.is_plain-plain.ensures in
    rw (to_z-of_z, take_rest) found
