use Rattle.std.proofs.Common.{◌≡◌, ℕ, ◌+◌, ◌-◌, ◌*◌, take, drop, ap, ◌∙◌, arith}
use Rattle.line_io.specs.declared.digits.TheConstants.{THREE_DIGITS}
use Rattle.line_io.proofs.ThreeDigitLemmas.{looked_up_is}
use Rattle.line_io.proofs.digits.three_digits.Goals as goal

pub returns : goal.returns
returns c =
    let at = 3 * c.from-at.result in
    let width : at + 3 - at ≡ 3 = omega arith in
    ap (λ (k : ℕ). take k (drop at THREE_DIGITS.now)) width
    ∙ ap (λ (n : ℕ). take 3 (drop (3 * n) THREE_DIGITS.now)) c.from-at.ensures
    ∙ looked_up_is c.args.number (omega arith)
