-- N2: bytes left over in the lumps of a level whose nodes stand in a later format (ours).
use Rattle.std.specs.Prelude.{ℕ, ◌-◌, ◌<◌, ◌≤◌, List, [], ◌∷◌, IsSomeAnd}
use Rattle.std.specs.List.{slice_get}
use Rattle.later_levels.specs.LaterLevel.{LaterLevel}

-- the numbers of bytes left over in THINGS to SECTORS: of the four lumps from VERTEXES on those that the nodes leave
abbrev pub rests : LaterLevel → List ℕ
rests one =
    one.level.things.rest ∷ one.level.linedefs.rest ∷ one.level.sidedefs.rest ∷ one.later.left.vertexes
    ∷ one.later.left.segs ∷ one.later.left.ssectors
    ∷ one.later.left.nodes ∷ one.level.sectors.rest ∷ []

-- bytes are left over in lump k, from 1 to 8
abbrev pub BytesLeftOver : LaterLevel → ℕ → Type 0
BytesLeftOver one k = (1 ≤ k) × IsSomeAnd (slice_get (rests one) (k - 1)) (λ rest. 0 < rest)
