-- Notes on a level's REJECT and BLOCKMAP (P_LoadBlockMap and P_SetupLevel of p_setup.c load them without a test).
use Rattle.std.specs.Prelude.{◌≡◌, ◌≢◌, ℕ, ◌+◌, ◌*◌, ◌/◌, ◌<◌, ◌⊎◌, length}
use Rattle.map_level.specs.Level.{Level}
use Rattle.map_level.specs.declared.finding.Code.{Code}
use Rattle.map_level.specs.declared.finding.Code.TheVariants.{N8, N9, N10}
use Rattle.map_tables.specs.BlockMap.{BlockMap, block_map_of, block_count}
use Rattle.map_tables.specs.Words.{IsOffsetOutside, HasNoEnd}

-- as many bytes as hold a bit for each pair of so many sectors
abbrev pub reject_size : ℕ → ℕ
reject_size sectors = (sectors * sectors + 7) / 8

-- N8: REJECT has another size than the sectors need
abbrev pub RejectSizeDiffers : Level → ℕ → Type 0
RejectSizeDiffers level i =
    (i ≡ 0) × (length level.reject ≢ reject_size (length level.sectors.records))

-- there are blocks, and fewer words than four and one for each of them
abbrev pub LacksOffsets : BlockMap → Type 0
LacksOffsets map = (0 < block_count map) × (length map.words.numbers < 4 + block_count map)

abbrev pub map_of : Level → BlockMap
map_of level = block_map_of level.reading level.blockmap

-- N9: BLOCKMAP has fewer than 8 bytes, or fewer words than its blocks need
abbrev pub BlockMapShort : Level → ℕ → Type 0
BlockMapShort level i = (i ≡ 0) × ((length level.blockmap < 8) ⊎ LacksOffsets (map_of level))

-- block n has an offset word, and no list
pub record IsFaultyBlock (map : BlockMap) (n : ℕ) : Type 0 where
  pub is_block : n < block_count map
  pub has_word : 4 + n < length map.words.numbers
  pub faulty : IsOffsetOutside map.words n ⊎ HasNoEnd map.words n

-- N10: a block's offset word is in the lump and its list isn't
abbrev pub BlockFaulty : Level → ℕ → Type 0
BlockFaulty level n = IsFaultyBlock (map_of level) n

-- where each code of the table part of a report holds; the others are looked for elsewhere
abbrev pub TableHolds : Level → Code → ℕ → Type 0
TableHolds level N8 i = RejectSizeDiffers level i
TableHolds level N9 i = BlockMapShort level i
TableHolds level N10 i = BlockFaulty level i
TableHolds level _ i = ⊥
