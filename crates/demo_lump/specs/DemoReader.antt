-- What contracts see of a `DemoReader`, and what its calls do (ours).
use Rattle.std.specs.Prelude.{◌≡◌, ℕ, Bool, true, Option, Some, None, Result, Ok, Err, MatchResult}
use Rattle.le_rec.specs.Source.{SourceState}
use Rattle.demo_lump.specs.NextPiece.{header_piece, next_piece}
use Rattle.demo_lump.specs.Reads.{Reads}
use Rattle.demo_lump.specs.Takes.{TakesAll}
use Rattle.demo_lump.specs.declared.command.Command.{Command}
use Rattle.demo_lump.specs.declared.header.Header.{Header}
use Rattle.demo_lump.specs.declared.fault.StreamFault.{StreamFault}

-- the limit, the bytes that it took, the header once it was read, whether the marker was read, the
-- bytes that `after` counted, and the first fault
pub record DemoReader : Type 0 where
  pub limit : ℕ
  pub taken : ℕ
  pub header : Option Header
  pub ended : Bool
  pub counted : Option ℕ
  pub fault : Option StreamFault

-- where a reading of the header, of a command or of the rest leaves it
abbrev pub after_header : DemoReader → ℕ → Result Header StreamFault → DemoReader
after_header r taken (Ok header) = record r { taken = taken; header = Some header }
after_header r taken (Err fault) = record r { taken = taken; fault = Some fault }

abbrev pub after_next : DemoReader → ℕ → Result (Option Command) StreamFault → DemoReader
after_next r taken (Ok (Some command)) = record r { taken = taken }
after_next r taken (Ok None) = record r { taken = taken; ended = true }
after_next r taken (Err fault) = record r { taken = taken; fault = Some fault }

abbrev pub after_rest : DemoReader → ℕ → Result ℕ StreamFault → DemoReader
after_rest r taken (Ok n) = record r { taken = taken; counted = Some n }
after_rest r taken (Err fault) = record r { taken = taken; fault = Some fault }

-- a call that reads nothing, since its answer is known
pub record Repeats {S A : Type 0} (answer : A) (source source' : S) (old new : DemoReader)
    (result : A) : Type 0 where
  pub answered : result ≡ answer
  pub unread : source' ≡ source
  pub unchanged : new ≡ old

-- a reading of the header
pub record ReadsHeader (source source' : SourceState) (old new : DemoReader)
    (result : Result Header StreamFault) : Type 0 where
  pub reads : Reads header_piece old.limit source source' old.taken new.taken result
  pub state : new ≡ after_header old new.taken result

-- a reading of the next command, or of the marker
pub record ReadsNext (version : ℕ) (source source' : SourceState) (old new : DemoReader)
    (result : Result (Option Command) StreamFault) : Type 0 where
  pub reads : Reads
      (next_piece version old.taken) old.limit source source' old.taken new.taken result
  pub state : new ≡ after_next old new.taken result

-- a reading of the header and then of what follows it
pub record ReadsBoth (source source' : SourceState) (old new : DemoReader)
    (result : Result (Option Command) StreamFault) : Type 0 where
  pub header : Result Header StreamFault
  pub between : SourceState
  pub begun : DemoReader
  pub first : ReadsHeader source between old begun header
  pub then : MatchResult header (λ h. ReadsNext h.version between source' begun new result)
      (λ e. (result ≡ Err e) × (new ≡ begun) × (source' ≡ between))

-- a reading of all that is left
pub record ReadsRest (source source' : SourceState) (old new : DemoReader)
    (result : Result ℕ StreamFault) : Type 0 where
  pub reads : TakesAll old.limit source source' old.taken new.taken result
  pub state : new ≡ after_rest old new.taken result
