-- Tables: records one after another (P_SetupLevel's loads of p_setup.c).
use Rattle.std.specs.Prelude.{ℕ, ◌*◌, ◌/◌, ◌%◌, List, length, take, drop, map}
use Rattle.std.specs.List.{range_with_len}

-- the records of a table, and how many bytes are left over
pub record Rows (R : Type 0) : Type 0 where
  pub records : List R
  pub rest : ℕ

-- the piece of a given size at a number
abbrev pub piece : ℕ → List ℕ → ℕ → List ℕ
piece size bytes index = take size (drop (index * size) bytes)

-- the records that bytes hold, as many as are whole
abbrev pub records_of : {R : Type 0} → ℕ → (List ℕ → R) → List ℕ → List R
records_of size read bytes =
    map (λ index. read (piece size bytes index)) (range_with_len 0 (length bytes / size))

-- the table that bytes hold
abbrev pub rows_of : {R : Type 0} → ℕ → (List ℕ → R) → List ℕ → Rows R
rows_of size read bytes =
    record { records = records_of size read bytes; rest = length bytes % size }
