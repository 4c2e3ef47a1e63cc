use Rattle.line_io.proofs.ReadingLemmas.{one_content}
use Rattle.line_io.proofs.laws.one_reading.Goals as goal

pub returns : goal.returns
returns c = one_content
