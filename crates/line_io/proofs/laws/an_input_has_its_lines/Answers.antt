use Rattle.line_io.proofs.LinesLemmas.{AreLines-lines, lines_only}
use Rattle.line_io.proofs.laws.an_input_has_its_lines.Goals as goal

pub returns-clause-cut : goal.returns-clause-cut
returns-clause-cut c = AreLines-lines

pub returns-clause-only : goal.returns-clause-only
returns-clause-only c = lines_only
