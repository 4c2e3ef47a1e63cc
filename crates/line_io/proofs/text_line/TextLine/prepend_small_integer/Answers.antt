use Rattle.std.proofs.Common.{◌≡◌, ◌+◌, ◌-◌, ◌≤◌, length, arith, ap, sym, ◌∙◌, FitsSigned, w8, rules}
use Rattle.std.proofs.lemmas.Fmt.{length_signed_le}
use Rattle.std.proofs.lemmas.Int.{ints, to_z-of_z}
use Rattle.std.proofs.lemmas.List.{length-append, length-drop}
use Rattle.std.specs.Fmt.{signed_decimal}
use Rattle.line_io.proofs.text_line.TextLine.prepend_small_integer.Goals as goal

pub write_small_integer-self-inside-requires : goal.write_small_integer-self-inside-requires
write_small_integer-self-inside-requires c =
    let line = c.self.inside in
    let long : length c.args.self.now ≡ length line.bytes - line.start = ap length (sym c.self.view_is) ∙ length-drop line.start line.bytes in
    (omega (arith, long, c.requires, c.self.told), omega (arith, c.self.told))

pub returns-clause-length : goal.returns-clause-length
returns-clause-length c =
    let digits : length (signed_decimal c.args.number) ≤ 4 = length_signed_le 3 c.args.number (omega (arith, ints)) (omega (arith, ints)) in
    let fits : FitsSigned w8 c.args.number = search rules in
    let written = simp to_z-of_z at c.write_small_integer-self-inside.ensures.written in
    let long = ap length written ∙ length-append (signed_decimal c.args.number) _ ∙ ap (λ n. length (signed_decimal c.args.number) + n) (ap length c.self.view_is) in
    omega (arith, long)
