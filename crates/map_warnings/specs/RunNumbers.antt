-- Numbers for the sides of a level, which sorted are in the order of sector and vertex (ours).
use Rattle.std.specs.Prelude.{◌≡◌, ℕ, ◌+◌, ◌-◌, ◌*◌, ◌/◌, ◌^◌, ◌<◌, ◌==◌, List, [], ◌∷◌, ◌++◌, All, count_by, slice_index_or, if◌then◌else◌}
use Rattle.std.specs.List.Sorted.{IsNonDecreasing}
use Rattle.map_level.specs.Level.{Level}
use Rattle.map_warnings.specs.Closing.{runs_of}
use Rattle.map_warnings.specs.declared.closing.SideRun.{SideRun}

-- a sector and a vertex as a number
abbrev pub pair_number : ℕ → ℕ → ℕ
pair_number s v = s * 65536 + v

-- of a side twice the number of its sector and the vertex that it reaches, and one more than that for the vertex that it leaves
abbrev pub run_numbers : SideRun → List ℕ
run_numbers run = (pair_number run.sector run.to * 2) ∷ (pair_number run.sector run.from * 2 + 1) ∷ []

abbrev pub numbers_of : List SideRun → List ℕ
numbers_of [] = []
numbers_of (run ∷ runs) = run_numbers run ++ numbers_of runs

-- a sector and vertexes of 16 bits
pub record IsShortRun (run : SideRun) : Type 0 where
  pub sector : run.sector < 65536
  pub from : run.from < 65536
  pub to : run.to < 65536

-- some sides of 16 bits were added
pub record AddsRuns (runs : List SideRun) (old new : List ℕ) : Type 0 where
  pub is : new ≡ old ++ numbers_of runs
  pub short : All IsShortRun runs

-- the numbers of a level's sides in order
pub record AreRunNumbers (level : Level) (numbers : List ℕ) : Type 0 where
  pub ascending : IsNonDecreasing numbers
  pub counts : (n : ℕ) → count_by (λ m. m == n) numbers ≡ count_by (λ m. m == n) (numbers_of (runs_of level))
  pub few : All (λ n. n < 2 ^ 33) numbers
  pub short : All IsShortRun (runs_of level)

-- up to which pair the first of the numbers go
abbrev pub pair_bound : List ℕ → ℕ → ℕ
pair_bound numbers k = if k == 0 then 0 else slice_index_or numbers (k - 1) 0 / 2 + 1
