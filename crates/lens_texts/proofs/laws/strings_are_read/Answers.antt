use Rattle.lens_texts.proofs.ReadBackLemmas.{law_strings_are_read}
use Rattle.lens_texts.proofs.laws.strings_are_read.Goals as goal

pub returns : goal.returns
returns c = law_strings_are_read
