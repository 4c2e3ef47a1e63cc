-- W6: linedefs that lie on earlier ones (ours).
use Rattle.std.specs.Prelude.{◌≡◌, ℕ, ◌<◌, ◌⊎◌, Option, Some, IsSomeAnd}
use Rattle.std.specs.List.{slice_get}
use Rattle.le_rec.specs.declared.records.LineDef.{LineDef}
use Rattle.le_rec.specs.declared.records.Vertex.{Vertex}
use Rattle.map_level.specs.Level.{Level}
use Rattle.map_level.specs.Links.{linedefs_of, vertexes_of, named, ◌>>=◌}
use Rattle.map_warnings.specs.declared.twins.Ends.{Ends}

-- the vertexes of a linedef
abbrev pub ends_of_linedef : Level → LineDef → Option Ends
ends_of_linedef level linedef = do
  from ← named (vertexes_of level) linedef.v1
  to ← named (vertexes_of level) linedef.v2
  Some (record { from = from; to = to })

-- the vertexes of the linedef of a number, where they are there
abbrev pub ends_of : Level → ℕ → Option Ends
ends_of level i = do
  linedef ← slice_get (linedefs_of level) i
  ends_of_linedef level linedef

-- two vertexes are at one place
abbrev pub IsOnePlace : Vertex → Vertex → Type 0
IsOnePlace a b = (a.x ≡ b.x) × (a.y ≡ b.y)

-- two pairs of vertexes are at the same two places, either way round
abbrev pub AreSamePlaces : Ends → Ends → Type 0
AreSamePlaces a b =
    (IsOnePlace a.from b.from × IsOnePlace a.to b.to) ⊎ (IsOnePlace a.from b.to × IsOnePlace a.to b.from)

-- two linedefs have the same two places as their ends
abbrev pub HaveSameEnds : Level → ℕ → ℕ → Type 0
HaveSameEnds level i j = IsSomeAnd (ends_of level i) (λ a. IsSomeAnd (ends_of level j) (AreSamePlaces a))

-- a linedef lies on an earlier one, the first that has its ends
pub record IsTwin (level : Level) (i earlier : ℕ) : Type 0 where
  pub before : earlier < i
  pub same : HaveSameEnds level earlier i
  pub first : (j : ℕ) → j < earlier → ¬ HaveSameEnds level j i
