-- The status with which the program ends (ours).
use Rattle.std.specs.Prelude.{ℕ, Bool, true, false, Result, Ok, Err}
use Rattle.wad_dir.specs.declared.packer.PackFault.TheVariants as pack
use Rattle.look_engines.specs.declared.fault.RunFault.{RunFault}
use Rattle.look_engines.specs.declared.fault.RunFault.TheVariants as fault

abbrev pub status_of_fault : RunFault → ℕ
status_of_fault fault.Memory = 3
status_of_fault (fault.Pack pack.Memory) = 3
status_of_fault _ = 2

abbrev pub status_of : Result Bool RunFault → ℕ
status_of (Ok true) = 0
status_of (Ok false) = 1
status_of (Err fault) = status_of_fault fault
