-- Files that have more bytes than a run reads (ours).
use Rattle.std.specs.Prelude.{◌≡◌, ℕ, ◌<◌, ◌≤◌, List, [], length, slice_index_or}
use Rattle.line_io.specs.declared.input.TheConstants.{MAX_READ}

-- no file has more bytes than a run reads
abbrev pub AreSmall : List (List ℕ) → Type 0
AreSmall files = (i : ℕ) → i < length files → length (slice_index_or files i []) ≤ MAX_READ

-- the first file that has more
pub record IsFirstLarge (files : List (List ℕ)) (place : ℕ) : Type 0 where
  pub there : place < length files
  pub large : MAX_READ < length (slice_index_or files place [])
  pub before : (i : ℕ) → i < place → length (slice_index_or files i []) ≤ MAX_READ
