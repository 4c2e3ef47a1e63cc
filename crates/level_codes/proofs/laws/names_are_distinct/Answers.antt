use Rattle.level_codes.proofs.CodeLemmas.{same_from_name}
use Rattle.level_codes.proofs.laws.names_are_distinct.Goals as goal

pub returns : goal.returns
returns c = same_from_name
