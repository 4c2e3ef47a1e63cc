use Rattle.line_io.proofs.PartsLemmas.{by_parts}
use Rattle.line_io.proofs.laws.read_by_parts.Goals as goal

pub returns : goal.returns
returns c = by_parts
