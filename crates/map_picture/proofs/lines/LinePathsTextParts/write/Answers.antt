use Rattle.std.proofs.Common.{arith}
use Rattle.map_picture.specs.Lines.{line_part}
use Rattle.lens_texts.proofs.PartsLemmas.{length-numbered, numbered_part}
use Rattle.map_picture.proofs.lines.LinePathsTextParts.write.Goals as goal

pub at-linedef-requires : goal.at-linedef-requires
at-linedef-requires g c =
    let lines = c.args.self.now in
    rw c.linedefs.ensures.is (omega (arith, c.requires.there, length-numbered (line_part lines.level.now lines.two_sided) 0 lines.level.now.linedefs.records))

pub returns : goal.returns
returns g c =
    let lines = c.args.self.now in
    let at = rw c.linedefs.ensures.is at c.at-linedef.ensures in
    rw (numbered_part (line_part lines.level.now lines.two_sided) 0 lines.level.now.linedefs.records c.args.number c.args.number c.at-linedef.result (omega arith) at)
    c.write_part.ensures
