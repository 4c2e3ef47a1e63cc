use Rattle.std.proofs.Common.{length, ap, sym, ◌∙◌}
use Rattle.map_picture.specs.Lines.{line_part}
use Rattle.lens_texts.proofs.PartsLemmas.{length-numbered}
use Rattle.map_picture.proofs.lines.LinePathsTextParts.count.Goals as goal

pub returns : goal.returns
returns c =
    let lines = c.args.self.now in
    c.len.ensures ∙ ap (λ linedefs. length linedefs.records) c.linedefs.ensures.is
    ∙ sym (length-numbered (line_part lines.level.now lines.two_sided) 0 lines.level.now.linedefs.records)
