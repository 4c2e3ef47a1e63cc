-- The paths of a run (ours).
use Rattle.std.specs.Prelude.{ℕ, ◌==◌, not, List, filter, length}
use Rattle.std.specs.List.{slice_split}

-- the paths of a list, each ended by a byte, the last one perhaps not; empty ones are left out
abbrev pub listed_paths : ℕ → List ℕ → List (List ℕ)
listed_paths end list = filter (λ path. not (length path == 0)) (slice_split (λ byte. byte == end) list)
