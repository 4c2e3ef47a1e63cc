use Rattle.level_codes.proofs.CodeLemmas.{finding_name, warning_name}
use Rattle.level_codes.proofs.laws.names_are_numbered.Goals as goal

pub returns : goal.returns
returns c = record { finding = finding_name; warning = warning_name }
