-- How often each code holds of what findings are looked for at (ours).
use Rattle.std.specs.Prelude.{◌≡◌, ◌↔◌, ℕ, ◌-◌, ◌<◌, List, [], ◌∷◌, length, take, drop, sum, AllPairs, Contains, slice_index}
use Rattle.map_level.specs.Findings.{rank}
use Rattle.map_level.specs.declared.finding.Code.{Code}
use Rattle.map_level.specs.declared.finding.Code.TheVariants.{F1, F2, F3, F4, F5, F6, F7, F8, F9, F10, F11, F12, F13, F14, F15, F16, F17, F18, N1, N2, N3, N4, N5, N6, N7, N8, N9, N10, N11, N12}
use Rattle.map_level.specs.declared.search.TheConstants.{CODE_COUNT}

-- all codes of findings in the order of a report
abbrev pub finding_order : List Code
finding_order =
    F1 ∷ F2 ∷ F3 ∷ F4 ∷ F5 ∷ F6 ∷ F7 ∷ F8 ∷ F9 ∷ F10 ∷ F11 ∷ F12 ∷ F13 ∷ F14 ∷ F15 ∷ F16 ∷ F17 ∷ F18
    ∷ N1 ∷ N2 ∷ N3 ∷ N4 ∷ N5 ∷ N6 ∷ N7 ∷ N8 ∷ N9 ∷ N10 ∷ N11 ∷ N12 ∷ []

-- how many indexes something holds at: a list of all of them, each once, has that length
pub record IsCount (holds : ℕ → Type 0) (count : ℕ) : Type 0 where
  pub indexes : List ℕ
  pub ascending : AllPairs (λ a b. a < b) indexes
  pub exact : (i : ℕ) → Contains indexes i ↔ holds i
  pub counted : count ≡ length indexes

-- how often each code holds, by the codes' ranks
pub record AreCounts (holds : Code → ℕ → Type 0) (counts : List ℕ) : Type 0 where
  pub all : length counts ≡ CODE_COUNT
  pub each : (code : Code) → IsCount (holds code) (slice_index counts (rank code))

-- how many findings are faults, and how many notes
abbrev pub fault_total : List ℕ → ℕ
fault_total counts = sum (take (rank N1) counts)

abbrev pub note_total : List ℕ → ℕ
note_total counts = sum (take (CODE_COUNT - rank N1) (drop (rank N1) counts))
