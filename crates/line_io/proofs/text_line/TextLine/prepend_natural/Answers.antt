use Rattle.std.proofs.Common.{◌≡◌, ◌+◌, ◌-◌, ◌≤◌, decimal, length, arith, ap, sym, ◌∙◌}
use Rattle.std.proofs.lemmas.Fmt.{length-decimal-le}
use Rattle.std.proofs.lemmas.List.{length-append, length-drop}
use Rattle.line_io.proofs.text_line.TextLine.prepend_natural.Goals as goal

pub write_digits-self-inside-requires : goal.write_digits-self-inside-requires
write_digits-self-inside-requires c =
    let line = c.self.inside in
    let digits : length (decimal c.args.number) ≤ 20 =
    length-decimal-le 20 c.args.number (omega arith) (omega arith) (omega arith) in
    let long : length c.args.self.now ≡ length line.bytes - line.start =
    ap length (sym c.self.view_is) ∙ length-drop line.start line.bytes in
    (omega (arith, c.requires, c.self.told), omega (arith, c.self.told))

pub returns-clause-length : goal.returns-clause-length
returns-clause-length c =
    let digits : length (decimal c.args.number) ≤ 20 =
    length-decimal-le 20 c.args.number (omega arith) (omega arith) (omega arith) in
    let written = c.write_digits-self-inside.ensures.written in
    let long =
    ap length written ∙ length-append (decimal c.args.number) _
    ∙ ap (λ n. length (decimal c.args.number) + n) (ap length c.self.view_is) in
    omega (arith, long)
