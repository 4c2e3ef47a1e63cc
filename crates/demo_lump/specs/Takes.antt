-- What taking bytes from a source does, up to a limit (ours): `taken` were taken before, and `taken'` are now.
use Rattle.std.specs.Prelude.{◌≡◌, ℕ, ◌+◌, ◌<◌, ◌≤◌, Bool, true, false, Option, Some, None, List, [], ◌∷◌, length, Result, OnOk, IfOk, IfErr}
use Rattle.std.specs.Io.KnownBytes.{Consumes, IsAtEnd}
use Rattle.le_rec.specs.Source.{SourceState}
use Rattle.demo_lump.specs.declared.fault.StreamFault.{StreamFault}
use Rattle.demo_lump.specs.declared.fault.StreamFault.TheVariants.{Demo, Read, TooLong}

-- `Read` comes only where the source has failed, `TooLong` only where it
-- gave the byte past the limit
abbrev pub EndFault : ℕ → Bool → ℕ → StreamFault → Type 0
EndFault limit failed taken Read = (failed ≡ true) × (taken ≤ limit)
EndFault limit failed taken TooLong = (failed ≡ false) × (taken ≡ limit + 1)
EndFault limit failed taken (Demo _) = ⊥

-- the same where n bytes were asked for: `Read` comes before all of them came
abbrev pub TakeFault : ℕ → ℕ → Bool → ℕ → ℕ → StreamFault → Type 0
TakeFault n limit failed read taken Read = (failed ≡ true) × (taken ≤ limit) × (read < n)
TakeFault n limit failed read taken TooLong = (failed ≡ false) × (taken ≡ limit + 1)
TakeFault n limit failed read taken (Demo _) = ⊥

-- taking n bytes, or fewer at the source's end: the answer's value is that of the bytes by `is`
pub record Takes {A : Type 0} (is : List ℕ → A → Type 0) (n limit : ℕ)
    (source source' : SourceState) (taken taken' : ℕ) (result : Result A StreamFault) : Type 0 where
  pub read : List ℕ
  pub given : Consumes source.left source'.left read
  pub counted : taken' ≡ taken + length read
  pub wanted : length read ≤ n
  -- at Ok
  pub found : IfOk result (is read)
  pub ended : OnOk result (length read < n → IsAtEnd source'.left)
  pub within : OnOk result (taken' ≤ limit)
  pub sound : OnOk result (source'.failed ≡ false)
  -- at Err
  pub fault : IfErr result (TakeFault n limit source'.failed (length read) taken')

-- the bytes fill the buffer, or are too few
abbrev pub Fills : List ℕ → List ℕ → Bool → Type 0
Fills buf read true = read ≡ buf
Fills buf read false = length read < length buf

-- one byte, or none
abbrev pub IsByte : List ℕ → Option ℕ → Type 0
IsByte read None = read ≡ []
IsByte read (Some b) = read ≡ b ∷ []

-- taking all that is left
pub record TakesAll (limit : ℕ) (source source' : SourceState) (taken taken' : ℕ)
    (result : Result ℕ StreamFault) : Type 0 where
  pub read : List ℕ
  pub given : Consumes source.left source'.left read
  pub counted : taken' ≡ taken + length read
  -- at Ok
  pub found : IfOk result (λ n. n ≡ length read)
  pub ended : OnOk result (IsAtEnd source'.left)
  pub within : OnOk result (taken' ≤ limit)
  pub sound : OnOk result (source'.failed ≡ false)
  -- at Err
  pub fault : IfErr result (EndFault limit source'.failed taken')
