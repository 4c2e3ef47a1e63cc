-- Findings of a level, and the order in which a report has them (ours).
use Rattle.std.specs.Prelude.{◌≡◌, ℕ, ◌<◌, ◌≤◌, ◌⊎◌, ◌↔◌, Bool, IsTrue, nat_lt, List, AllPairs, Contains}
use Rattle.map_level.specs.declared.finding.Code.{Code}
use Rattle.map_level.specs.declared.finding.Code.TheVariants.{F1, F2, F3, F4, F5, F6, F7, F8, F9, F10, F11, F12, F13, F14, F15, F16, F17, F18, N1, N2, N3, N4, N5, N6, N7, N8, N9, N10, N11, N12}
use Rattle.map_level.specs.declared.finding.Finding.{Finding}

-- a code's rank in a report: the faults, and then the notes
abbrev pub rank : Code → ℕ
rank F1 = 0
rank F2 = 1
rank F3 = 2
rank F4 = 3
rank F5 = 4
rank F6 = 5
rank F7 = 6
rank F8 = 7
rank F9 = 8
rank F10 = 9
rank F11 = 10
rank F12 = 11
rank F13 = 12
rank F14 = 13
rank F15 = 14
rank F16 = 15
rank F17 = 16
rank F18 = 17
rank N1 = 18
rank N2 = 19
rank N3 = 20
rank N4 = 21
rank N5 = 22
rank N6 = 23
rank N7 = 24
rank N8 = 25
rank N9 = 26
rank N10 = 27
rank N11 = 28
rank N12 = 29

-- the F codes
abbrev pub is_fault : Code → Bool
is_fault code = nat_lt (rank code) (rank N1)

-- a finding stands before another: by code, and then by index
abbrev pub StandsBefore : Finding → Finding → Type 0
StandsBefore a b = (rank a.code < rank b.code) ⊎ ((a.code ≡ b.code) × (a.index < b.index))

-- all of which something holds: each of them once, in order, and no others
pub record AreAllInOrder {A : Type 0} (before : A → A → Type 0) (holds : A → Type 0) (all : List A) : Type 0 where
  pub ascending : AllPairs before all
  pub exact : (one : A) → Contains all one ↔ holds one

-- the findings where a code holds at an index
abbrev pub AreFindings : (Code → ℕ → Type 0) → List Finding → Type 0
AreFindings holds found = AreAllInOrder StandsBefore (λ f. holds f.code f.index) found

-- the findings so far: those of the codes whose rank is below a rank, and of the code at
-- that rank those below an index
abbrev pub AreFindingsBelow : (Code → ℕ → Type 0) → ℕ → ℕ → List Finding → Type 0
AreFindingsBelow holds at index found = AreAllInOrder StandsBefore
    (λ f. holds f.code f.index × ((rank f.code < at) ⊎ ((rank f.code ≡ at) × (f.index < index)))) found

-- an index is the first at which a code holds, from a given one on
pub record IsFirst (holds : ℕ → Type 0) (from at : ℕ) : Type 0 where
  pub within : from ≤ at
  pub here : holds at
  pub before : (i : ℕ) → from ≤ i → i < at → ¬ holds i

-- no fault holds
abbrev pub NoFaultHolds : (Code → ℕ → Type 0) → Type 0
NoFaultHolds holds = (code : Code) (i : ℕ) → IsTrue (is_fault code) → ¬ holds code i
