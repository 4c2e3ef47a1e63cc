use Rattle.lens_engines.proofs.CheckedLemmas.{law_checked_is_sound}
use Rattle.lens_engines.proofs.laws.checked_is_sound.Goals as goal

pub returns : goal.returns
returns c = law_checked_is_sound
