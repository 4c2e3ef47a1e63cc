use Rattle.std.proofs.Common.{take}
use Rattle.lens_commands.specs.AtlasLines.{TakesLines}
use Rattle.lens_commands.proofs.atlas.lines.write_lines.Given as goal

abbrev pub invariant-loop-row : goal.invariant-loop-row
invariant-loop-row g l = TakesLines (take l.row-index l.rows) (g.W.Sink.state l.fn.survey) (g.W.Sink.state l.survey) l.worst
