-- What an engine of lines does between the input that it reads and the output that it writes (ours).
use Rattle.std.specs.Prelude.{◌≡◌, ℕ, ◌+◌, ◌<◌, ◌≤◌, Bool, true, false, List, [], ◌++◌, length, take, Result, IfSome, IfOk, OnOk, OnErr, IfErr}
use Rattle.std.specs.Io.KnownBytes.{Appends, Consumes, IsAtEnd}
use Rattle.le_rec.specs.Sink.{SinkState}
use Rattle.le_rec.specs.Source.{SourceState}
use Rattle.line_io.specs.declared.fault.IoFault.{IoFault}
use Rattle.line_io.specs.declared.fault.IoFault.TheVariants.{Read, Write, TooLong, Memory}
use Rattle.line_io.specs.LineAnswers.{answers_from, text_of}
use Rattle.line_io.specs.Writes.{TakesFront, WriteFault}

-- when each fault may come: `Read` where the source has failed before a byte past the limit, `Write` where the sink has
-- failed, `TooLong` where there was such a byte, and `Memory` where an answer takes memory; the other end hasn't failed
abbrev pub EngineFault : Bool → ℕ → List ℕ → SourceState → SinkState → IoFault → Type 0
EngineFault memory limit read input' out' Read = (input'.failed ≡ true) × (out'.failed ≡ false) × (length read ≤ limit)
EngineFault memory limit read input' out' Write = (input'.failed ≡ false) × (out'.failed ≡ true)
EngineFault memory limit read input' out' TooLong = (input'.failed ≡ false) × (out'.failed ≡ false) × (limit < length read)
EngineFault memory limit read input' out' Memory = (input'.failed ≡ false) × (out'.failed ≡ false) × (memory ≡ true)

-- after these faults the answers to all lines wholly read within the limit were written
abbrev pub LeavesAnswers : IoFault → Type 0
LeavesAnswers Read = Unit {0}
LeavesAnswers TooLong = Unit {0}
LeavesAnswers _ = ⊥

-- whole answers alone were written: those to the lines that end in a front of `bytes`, the first of them begun by `part`
pub record LeavesWhole (answer : List ℕ → List ℕ) (part bytes : List ℕ) (out out' : SinkState) : Type 0 where
  pub front : List ℕ
  pub rest : List ℕ
  pub splits : bytes ≡ front ++ rest
  pub added : Appends out.taken out'.taken (answers_from answer part front)

-- why the lines of a block weren't all answered: their writer stopped, or there was no memory
abbrev pub LinesFault : Bool → SinkState → IoFault → Type 0
LinesFault memory after Memory = (memory ≡ true) × (after.failed ≡ false)
LinesFault memory after fault = WriteFault after fault

-- how answering the lines of a block ends
pub record EndsLines {T : Type 0} (memory : Bool) (after : SinkState)
    (result : Result T IoFault) : Type 0 where
  pub sound : OnOk result (after.failed ≡ false)
  pub fault : IfErr result (LinesFault memory after)

-- of the lines with which a block begins some were answered, at Ok those in so many of its bytes
pub record AnswersFront (answer : List ℕ → List ℕ) (block : List ℕ) (out out' : SinkState) (result : Result ℕ IoFault) : Type 0 where
  pub whole : IfOk result (λ count. Appends out.taken out'.taken (answers_from answer [] (take count block)))
  pub front : OnErr result (TakesFront out out' (answers_from answer [] block))
  pub unbroken : IfErr result (λ e. e ≡ Memory → LeavesWhole answer [] block out out')

-- the lines of an input are answered by `answer`: `read` was read of it, up to `limit`, and `left` is what it had left, if that is known
pub record WritesAnswers (answer : List ℕ → List ℕ) (limit : ℕ) (read : List ℕ)
    (input : SourceState) (out out' : SinkState) (result : Result (Unit {0}) IoFault) : Type 0 where
  -- at Ok the text of all that was read was written
  pub whole : OnOk result (Appends out.taken out'.taken (text_of answer read))
  -- at Err a front of it and of the whole input's text, where that is known
  pub front : OnErr result (TakesFront out out' (text_of answer read))
  pub front_of_all : IfSome input.left
      (λ left. OnErr result (TakesFront out out' (text_of answer left)))
  pub answered : IfErr result (λ e. LeavesAnswers e
      → Appends out.taken out'.taken (answers_from answer [] (take limit read)))
  -- at `Memory` no answer was written in part
  pub unbroken : IfErr result (λ e. e ≡ Memory → LeavesWhole answer [] (take limit read) out out')

-- an engine reads up to `limit` and ends with `result`; its answers follow each function of `Answers`, from a line's content, and take memory or not
pub record AnswersLines (Answers : (List ℕ → List ℕ) → Type 0) (memory : Bool) (limit : ℕ)
    (input input' : SourceState) (out out' : SinkState)
    (result : Result (Unit {0}) IoFault) : Type 0 where
  -- what the source gave
  pub read : List ℕ
  pub given : Consumes input.left input'.left read
  pub bounded : length read ≤ limit + 1
  -- at Ok that is the whole input, within its limit
  pub within : OnOk result (length read ≤ limit)
  pub all_read : OnOk result (IsAtEnd input'.left)
  pub sound : OnOk result ((input'.failed ≡ false) × (out'.failed ≡ false))
  pub fault : IfErr result (EngineFault memory limit read input' out')
  pub written : (answer : List ℕ → List ℕ) → Answers answer
      → WritesAnswers answer limit read input out out' result
