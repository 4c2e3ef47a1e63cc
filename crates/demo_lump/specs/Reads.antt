-- What reading a piece of a demo from a source does (ours).
use Rattle.std.specs.Prelude.{◌≡◌, ℕ, ◌+◌, ◌-◌, ◌≤◌, Bool, true, false, List, length, take, Result, OnOk, OnErr, IfOk, IfErr, IfSome}
use Rattle.std.specs.Io.KnownBytes.{Consumes}
use Rattle.le_rec.specs.Source.{SourceState}
use Rattle.demo_lump.specs.NextPiece.{Piece}
use Rattle.demo_lump.specs.Pieces.{NoneBegins}
use Rattle.demo_lump.specs.declared.fault.StreamFault.{StreamFault}
use Rattle.demo_lump.specs.declared.fault.StreamFault.TheVariants.{Demo, Read, TooLong}

-- A demo's fault is that of the bytes that were left. `Read` comes only where the source has
-- failed, `TooLong` only where it gave the byte past the limit.
abbrev pub ReadFault : {A : Type 0} → Piece A → ℕ → SourceState → Bool → ℕ → StreamFault → Type 0
ReadFault piece limit source failed taken (Demo fault) =
    (failed ≡ false) × (taken ≤ limit) × IfSome source.left (λ left. piece.refuses left fault)
ReadFault piece limit source failed taken Read = (failed ≡ true) × (taken ≤ limit)
ReadFault piece limit source failed taken TooLong = (failed ≡ false) × (taken ≡ limit + 1)

-- reading a piece, up to a limit: `taken` bytes were taken before, and `taken'` are now
pub record Reads {A : Type 0} (piece : Piece A) (limit : ℕ) (source source' : SourceState)
    (taken taken' : ℕ) (result : Result A StreamFault) : Type 0 where
  -- the bytes that it took: none but those that it needs
  pub read : List ℕ
  pub given : Consumes source.left source'.left read
  pub counted : taken' ≡ taken + length read
  pub needed : piece.needs read
  -- at Ok they are the piece
  pub found : IfOk result (piece.is read)
  pub within : OnOk result (taken' ≤ limit)
  pub sound : OnOk result (source'.failed ≡ false)
  -- at Err they hold none within the limit
  pub fault : IfErr result (ReadFault piece limit source source'.failed taken')
  pub none : OnErr result (NoneBegins piece.is (take (limit - taken) read))
