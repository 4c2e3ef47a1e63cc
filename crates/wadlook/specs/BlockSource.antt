-- What clauses see of a reader that is read a block at a time (ours).
use Rattle.std.specs.Prelude.{ℕ, Bool, List, slice_range, Option}
use Rattle.std.specs.Io.KnownBytes.{prepend_known}
use Rattle.wadlook.specs.declared.block_source.BlockSource.{BlockSource}

-- the reader inside
abbrev pub reader_of : {R : Type 0} → BlockSource R → R
reader_of s = s.reader

-- whether a pull of it has failed
abbrev pub pull_failed : {R : Type 0} → BlockSource R → Bool
pull_failed s = s.failed

-- the bytes that were read and not yet given
abbrev pub bytes_read : {R : Type 0} → BlockSource R → List ℕ
bytes_read s = slice_range s.block.items s.start s.end

-- those, and then what the reader still has, where that is known
abbrev pub bytes_left : {R : Type 0} → (R → Option (List ℕ)) → BlockSource R → Option (List ℕ)
bytes_left remaining s = prepend_known (bytes_read s) (remaining s.reader)
