use Rattle.line_io.proofs.LinesLemmas.{IsContent-content}
use Rattle.line_io.proofs.laws.a_line_has_its_content.Goals as goal

pub returns : goal.returns
returns c = IsContent-content
