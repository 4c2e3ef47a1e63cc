-- A lump that is too short for a blockmap.
use Rattle.std.proofs.Common.{ℕ, ◌<◌, length, arith}
use Rattle.map_level.specs.Level.{Level}
use Rattle.map_tables.specs.TableFaults.{BlockFaulty}
use Rattle.map_tables.proofs.WordLemmas.{length-words}

-- no block has a word for its offset there
pub no_faulty_block : (level : Level) (n : ℕ) → length level.blockmap < 8 → ¬ BlockFaulty level n
no_faulty_block level n few faulty =
    omega (arith, few, faulty.has_word, length-words level.reading level.blockmap)
