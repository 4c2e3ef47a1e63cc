use Rattle.std.proofs.Common.{◌≡◌, ◌+◌, ◌-◌, ◌≤◌, decimal, length, arith, ap, sym, ◌∙◌}
use Rattle.std.proofs.lemmas.Fmt.{length-decimal-le}
use Rattle.std.proofs.lemmas.List.{length-append, length-drop}
use Rattle.line_io.proofs.text_line.TextLine.prepend_small.Goals as goal

pub write_small-self-inside-requires : goal.write_small-self-inside-requires
write_small-self-inside-requires c =
    let line = c.self.inside in
    let long : length c.args.self.now ≡ length line.bytes - line.start = ap length (sym c.self.view_is) ∙ length-drop line.start line.bytes in
    (omega (arith, long, c.requires, c.self.told), omega (arith, c.self.told))

pub returns-clause-length : goal.returns-clause-length
returns-clause-length c =
    let digits : length (decimal c.args.number) ≤ 3 = length-decimal-le 3 c.args.number (omega arith) (omega arith) (omega arith) in
    let written = c.write_small-self-inside.ensures.written in
    let long = ap length written ∙ length-append (decimal c.args.number) _ ∙ ap (λ n. length (decimal c.args.number) + n) (ap length c.self.view_is) in
    omega (arith, long)
