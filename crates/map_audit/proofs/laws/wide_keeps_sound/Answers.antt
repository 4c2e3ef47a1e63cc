use Rattle.map_audit.proofs.LawLemmas.{law_wide_keeps_sound}
use Rattle.map_audit.proofs.laws.wide_keeps_sound.Goals as goal

pub returns : goal.returns
returns c = law_wide_keeps_sound
