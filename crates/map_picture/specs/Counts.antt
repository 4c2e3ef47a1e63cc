-- How many findings are faults, and how many notes (ours).
use Rattle.std.specs.Prelude.{◌≡◌, ℕ, ◌+◌, ◌*◌, ◌^◌, ◌≤◌, List}
use Rattle.map_level.specs.Findings.{AreFindings, AreFindingsBelow}
use Rattle.map_level.specs.declared.finding.Code.{Code}
use Rattle.map_level.specs.declared.finding.Finding.{Finding}
use Rattle.look_engines.specs.Engines.Audit.{fault_count, note_count}
use Rattle.map_picture.specs.declared.finding_counts.FindingCounts.{FindingCounts}

-- the counts of a list
abbrev pub counts_of : List Finding → FindingCounts
counts_of found = record { faults = fault_count found; notes = note_count found }

-- how many findings there are: the counts of a list of all of them, each once
pub record CountsFindings (holds : Code → ℕ → Type 0) (counts : FindingCounts) : Type 0 where
  pub found : List Finding
  pub are : AreFindings holds found
  pub counted : counts ≡ counts_of found

-- the same of the codes whose rank is below a rank, and of the code at that rank for indexes below one; they are no more than these places
pub record CountsBelow (holds : Code → ℕ → Type 0) (at index : ℕ) (counts : FindingCounts) : Type 0 where
  pub found : List Finding
  pub are : AreFindingsBelow holds at index found
  pub counted : counts ≡ counts_of found
  pub few : counts.faults + counts.notes ≤ at * 2 ^ 32 + index
