-- What writing a text does to a sink (ours).
use Rattle.std.specs.Prelude.{◌≡◌, ◌⊎◌, Bool, true, false, ℕ, List, ◌++◌, Result, Err, OnOk, OnErr, IfErr}
use Rattle.std.specs.Io.KnownBytes.{Appends}
use Rattle.le_rec.specs.Sink.{SinkState}
use Rattle.line_io.specs.declared.fault.IoFault.{IoFault}
use Rattle.line_io.specs.declared.fault.IoFault.TheVariants.{Write, Memory}

-- a front of the text was taken
pub record TakesFront (before after : SinkState) (text : List ℕ) : Type 0 where
  pub front : List ℕ
  pub rest : List ℕ
  pub splits : text ≡ front ++ rest
  pub added : Appends before.taken after.taken front

-- the text was taken at Ok, and a front of it at Err
pub record TakesText {T : Type 0} (before after : SinkState) (text : List ℕ)
    (result : Result T IoFault) : Type 0 where
  pub whole : OnOk result (Appends before.taken after.taken text)
  pub front : OnErr result (TakesFront before after text)

-- a writer ends with `Write`, only where the sink has failed, and with no other fault
abbrev pub WriteFault : SinkState → IoFault → Type 0
WriteFault after Write = after.failed ≡ true
WriteFault after _ = ⊥

-- how a writer ends, which takes no memory: the sink hasn't failed at Ok
pub record EndsWriting {T : Type 0} (after : SinkState) (result : Result T IoFault) : Type 0 where
  pub sound : OnOk result (after.failed ≡ false)
  pub fault : IfErr result (WriteFault after)

-- how an answer ends that takes memory or not: as its writer does, or with `Memory` and nothing written
abbrev pub EndsAnswer : {T : Type 0} → Bool → SinkState → SinkState → Result T IoFault → Type 0
EndsAnswer memory before after result =
    EndsWriting after result ⊎ ((memory ≡ true) × (result ≡ Err Memory) × (after ≡ before))

-- the writer of `text` answers `result`
pub record Writes {T : Type 0} (before after : SinkState) (text : List ℕ)
    (result : Result T IoFault) : Type 0 where
  pub takes : TakesText before after text result
  pub ends : EndsWriting after result
