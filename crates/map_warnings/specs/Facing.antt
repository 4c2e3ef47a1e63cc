-- W5: ssectors whose segs face several sectors (P_GroupLines of p_setup.c goes by the first seg alone).
use Rattle.std.specs.Prelude.{◌≡◌, ◌≢◌, ℕ, ◌<◌, ◌≤◌, ℤ, pos, ◌+ℤ◌, int_lt, List, length, Option, Some, None, IsSomeAnd, slice_index_or, if◌then◌else◌}
use Rattle.std.specs.List.{slice_get}
use Rattle.map_level.specs.Level.{Level}
use Rattle.map_level.specs.Links.{segs_of, ssectors_of, sectors_of, named, ◌>>=◌}
use Rattle.map_level.specs.SectorOf.{sidedef_of, number_named}

-- the sector that the seg of an index faces
abbrev pub sector_faced : Level → ℤ → Option ℕ
sector_faced level index = do
  seg ← named (segs_of level) index
  sidedef ← sidedef_of level seg
  number_named (length (sectors_of level)) sidedef.sector

-- the sector that the k-th of so many segs faces, from 0
abbrev pub faced_by : Level → ℤ → ℤ → ℕ → Option ℕ
faced_by level first count k = if int_lt (pos k) count then sector_faced level (first +ℤ pos k) else None

-- of so many segs from one on those in front face one sector, and the next one another
pub record Mismatch (level : Level) (first count : ℤ) (one other : ℕ) : Type 0 where
  pub k : ℕ
  pub some : 0 < k
  pub before : (j : ℕ) → j < k → faced_by level first count j ≡ Some one
  pub here : faced_by level first count k ≡ Some other
  pub differ : other ≢ one

-- an ssector's segs face the sector of the first one, and another; this is the first other one
abbrev pub IsMismatched : Level → ℕ → ℕ → ℕ → Type 0
IsMismatched level t one other =
    IsSomeAnd (slice_get (ssectors_of level) t) (λ ssector. Mismatch level ssector.first ssector.count one other)

-- from a seg on the next one that faces something else, or the number of segs
pub record IsRunEnd (level : Level) (j e : ℕ) : Type 0 where
  pub after : j < e
  pub within : e ≤ length level.segs.records
  pub same : (i : ℕ) → j ≤ i → i < e → sector_faced level (pos i) ≡ sector_faced level (pos j)
  pub other : e < length level.segs.records → sector_faced level (pos e) ≢ sector_faced level (pos j)

-- for each seg that one
pub record AreRunEnds (level : Level) (ends : List ℕ) : Type 0 where
  pub long : length ends ≡ length level.segs.records
  pub each : (j : ℕ) → j < length level.segs.records → IsRunEnd level j (slice_index_or ends j 0)
