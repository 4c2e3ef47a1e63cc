-- Why a level that was opened isn't accepted.
use Rattle.std.proofs.Common.{ℕ, List}
use Rattle.map_level.specs.Findings.{NoFaultHolds}
use Rattle.map_level.specs.Level.{Level}
use Rattle.map_level.specs.LinkFaults.{LinkHolds}
use Rattle.map_level.specs.declared.reading.Reading.{Reading}
use Rattle.map_tree.specs.Sound.{IsSound}
use Rattle.look_engines.specs.Opening.{IsOpened, RefusesAudit, RefusesAccepted}
use Rattle.look_engines.specs.declared.fault.RunFault.{RunFault}
use Rattle.look_engines.specs.declared.fault.RunFault.TheVariants as fault

-- no link of a sound level has a fault
pub links_from_sound : (level : Level) → IsSound level → NoFaultHolds (LinkHolds level)
links_from_sound level sound = sound.linked

pub refused_audit : (bytes : List (List ℕ)) (name : List ℕ) (reading : Reading) (level : Level) (why : RunFault) → IsOpened bytes name reading level → RefusesAudit level why → RefusesAccepted bytes name reading why
refused_audit bytes name reading level fault.Audit opened told = (level, opened, told)
refused_audit bytes name reading level fault.Memory opened told = tt
refused_audit bytes name reading level _ opened told = absurd told
