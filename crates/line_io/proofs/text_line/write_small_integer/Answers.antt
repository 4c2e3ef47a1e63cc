use Rattle.std.proofs.Common.{◌≡◌, ◌≤◌, ◌++◌, ◌∷◌, decimal, drop, length, arith, ap, sym, ◌∙◌, pos, true, false, FitsSigned, w8, rules}
use Rattle.std.proofs.lemmas.Fmt.{length-decimal-le}
use Rattle.std.proofs.lemmas.Int.{to_z-of_z}
use Rattle.std.specs.Prelude.{int_lt, unsigned_abs}
use Rattle.line_io.proofs.SmallLemmas.{signed_below, signed_from, sign_kept, sign_left_out}
use Rattle.line_io.proofs.text_line.write_small_integer.Goals as goal

pub overflow_sub-bytes : goal.overflow_sub-bytes
overflow_sub-bytes c =
    let digits : length (decimal c.unsigned_abs.result) ≤ 3 = length-decimal-le 3 c.unsigned_abs.result (omega arith) (omega arith) (omega arith) in
    omega (arith, c.requires.0, c.write_small-digits.ensures.start)

pub overflow_sub-result : goal.overflow_sub-result
overflow_sub-result c =
    let digits : length (decimal c.unsigned_abs.result) ≤ 3 = length-decimal-le 3 c.unsigned_abs.result (omega arith) (omega arith) (omega arith) in
    omega (arith, c.requires.0, c.write_small-digits.ensures.start)

pub returns-then-number-lt0-clause-start : goal.returns-then-number-lt0-clause-start
returns-then-number-lt0-clause-start c =
    let fits : FitsSigned w8 c.args.number = search rules in
    let below : int_lt c.args.number (pos 0) ≡ true = simp to_z-of_z at c.if-number-lt0.true in
    let value : c.unsigned_abs.result ≡ unsigned_abs c.args.number = simp to_z-of_z at c.unsigned_abs.ensures.value in
    let digits : length (decimal c.unsigned_abs.result) ≤ 3 = length-decimal-le 3 c.unsigned_abs.result (omega arith) (omega arith) (omega arith) in
    let long = ap length (signed_below c.args.number below ∙ ap (λ n. 45 ∷ decimal n) (sym value)) in
    omega (arith, long, c.requires.0, c.write_small-digits.ensures.start)

pub returns-then-number-lt0-clause-written : goal.returns-then-number-lt0-clause-written
returns-then-number-lt0-clause-written c =
    let fits : FitsSigned w8 c.args.number = search rules in
    let below : int_lt c.args.number (pos 0) ≡ true = simp to_z-of_z at c.if-number-lt0.true in
    let value : c.unsigned_abs.result ≡ unsigned_abs c.args.number = simp to_z-of_z at c.unsigned_abs.ensures.value in
    let digits : length (decimal c.unsigned_abs.result) ≤ 3 = length-decimal-le 3 c.unsigned_abs.result (omega arith) (omega arith) (omega arith) in
    let is = signed_below c.args.number below ∙ ap (λ n. 45 ∷ decimal n) (sym value) in
    sign_kept c.write_small-digits.new.bytes _ c.write_small-digits.result
    (omega (arith, c.requires.0, c.write_small-digits.ensures.start))
    (omega (arith, c.requires.1, c.write_small-digits.ensures.start, c.write_small-digits.ensures.length))
    c.write_small-digits.ensures.written ∙ ap (λ text. text ++ drop c.args.end c.args.bytes.now) (sym is)

pub returns-else-number-lt0-clause-written : goal.returns-else-number-lt0-clause-written
returns-else-number-lt0-clause-written c =
    let fits : FitsSigned w8 c.args.number = search rules in
    let from : int_lt c.args.number (pos 0) ≡ false = simp to_z-of_z at c.if-number-lt0.false in
    let value : c.unsigned_abs.result ≡ unsigned_abs c.args.number = simp to_z-of_z at c.unsigned_abs.ensures.value in
    let digits : length (decimal c.unsigned_abs.result) ≤ 3 = length-decimal-le 3 c.unsigned_abs.result (omega arith) (omega arith) (omega arith) in
    let is = signed_from c.args.number from ∙ ap decimal (sym value) in
    sign_left_out c.write_small-digits.new.bytes _ c.write_small-digits.result
    (omega (arith, c.requires.0, c.write_small-digits.ensures.start))
    c.write_small-digits.ensures.written ∙ ap (λ text. text ++ drop c.args.end c.args.bytes.now) (sym is)
