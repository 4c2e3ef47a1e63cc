use Rattle.map_audit.proofs.LawLemmas.{law_sound_is_no_fault}
use Rattle.map_audit.proofs.laws.sound_is_no_fault.Goals as goal

pub returns : goal.returns
returns c = law_sound_is_no_fault
