use Rattle.line_io.proofs.LineLemmas.{line_answer-take}
use Rattle.line_io.proofs.laws.first_bytes_decide_an_answer.Goals as goal

pub returns : goal.returns
returns c = line_answer-take
