use Rattle.lens_engines.proofs.LawLemmas.{law_faultless_is_sound}
use Rattle.lens_engines.proofs.laws.faultless_is_sound.Goals as goal

pub returns : goal.returns
returns c = law_faultless_is_sound
