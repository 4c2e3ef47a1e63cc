-- What a run of a command does (ours).
use Rattle.std.specs.Prelude.{◌≡◌, ◌⊎◌, ℕ, Bool, true, Result, Ok, Err}
use Rattle.std.specs.declared.vec.Vec.{Vec}
use Rattle.le_rec.specs.Source.{SourceState}
use Rattle.line_io.specs.ReadsAll.{ReadsAll}
use Rattle.line_io.specs.declared.fault.IoFault.{IoFault}
use Rattle.look_engines.specs.Fault.{run_end}
use Rattle.look_engines.specs.declared.fault.RunFault.{RunFault}

-- it ended before anything was read or written, for a reason that holds
pub record EndsBefore {T : Type 0} (Reason : RunFault → Type 0) (Untouched : Type 0) (result : Result T RunFault) : Type 0 where
  pub fault : RunFault
  pub ended : result ≡ Err fault
  pub holds : Reason fault
  pub untouched : Untouched

-- it went on with what was found, and ended as reading and writing did
pub record WentOn {T X : Type 0} (Found : X → Type 0) (Does : X → Result T IoFault → Type 0) (result : Result T RunFault) : Type 0 where
  pub what : X
  pub found : Found what
  pub outcome : Result T IoFault
  pub ended : result ≡ run_end outcome
  pub does : Does what outcome

-- one of the two
abbrev pub Runs : {T X : Type 0} → (RunFault → Type 0) → Type 0 → (X → Type 0) → (X → Result T IoFault → Type 0) → Result T RunFault → Type 0
Runs Reason Untouched Found Does result = EndsBefore Reason Untouched result ⊎ WentOn Found Does result

-- the run of a command that finds no faults
abbrev pub done : Result (Unit {0}) RunFault → Result Bool RunFault
done (Ok x) = Ok true
done (Err fault) = Err fault

-- a command ends as its engine does
pub record EndsAs (Engine : Result (Unit {0}) RunFault → Type 0) (result : Result Bool RunFault) : Type 0 where
  pub outcome : Result (Unit {0}) RunFault
  pub runs : Engine outcome
  pub ended : result ≡ done outcome

-- reading a whole input, with the faults of a run
pub record ReadsWhole {A : Type 0} (limit : ℕ) (before after : SourceState) (result : Result (Vec ℕ A) RunFault) : Type 0 where
  pub outcome : Result (Vec ℕ A) IoFault
  pub reads : ReadsAll limit before after outcome
  pub ended : result ≡ run_end outcome
