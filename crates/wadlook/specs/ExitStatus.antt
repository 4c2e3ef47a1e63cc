-- The status with which the program ends (ours).
use Rattle.std.specs.Prelude.{ℕ, Bool, Result, Ok, Err}
use Rattle.look_engines.specs.Outcome.{status_of}
use Rattle.wadlook.specs.declared.refusal.ProgramRefusal.{ProgramRefusal}
use Rattle.wadlook.specs.declared.refusal.ProgramRefusal.TheVariants.{Run}

-- that of the run, and 2 where the words or a file were refused
abbrev pub exit_status_of : Result Bool ProgramRefusal → ℕ
exit_status_of (Ok clean) = status_of (Ok clean)
exit_status_of (Err (Run fault)) = status_of (Err fault)
exit_status_of (Err _) = 2
