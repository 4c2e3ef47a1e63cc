use Rattle.line_io.proofs.TextLemmas.{one_text}
use Rattle.line_io.proofs.laws.one_text.Goals as goal

pub returns : goal.returns
returns c = one_text
