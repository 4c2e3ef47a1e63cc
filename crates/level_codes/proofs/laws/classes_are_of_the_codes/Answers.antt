use Rattle.level_codes.proofs.CodeLemmas.{finding_class, warning_class}
use Rattle.level_codes.proofs.laws.classes_are_of_the_codes.Goals as goal

pub returns : goal.returns
returns c = record { finding = finding_class; warning = warning_class }
