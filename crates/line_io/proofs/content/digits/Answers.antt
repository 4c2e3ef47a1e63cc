use Rattle.std.proofs.Common.{◌<◌, length, arith}
use Rattle.std.proofs.lemmas.List.Elements.{All-more}
use Rattle.line_io.specs.Numbers.{IsDigit}
use Rattle.line_io.proofs.DigitLemmas.{value_of-take_more}
use Rattle.line_io.proofs.content.digits.Goals as goal

pub loop-count-preserved : goal.loop-count-preserved
loop-count-preserved c =
    let bytes = c.args.bytes.now in
    let count = c.loop-count.count in
    let below : count < length bytes = omega arith in
    let more = value_of-take_more bytes count below in
    let digit = c.if-not-is_ascii_digit.ensures in
    let value = c.min-value.ensures in
    let so_far = c.loop-count.invariant.so_far in
    let bounds = digit.cases in
    record {
      each = All-more IsDigit bytes count 0 below c.loop-count.invariant.each digit.cases;
      so_far = omega arith;
    }
