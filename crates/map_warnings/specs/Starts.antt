-- W7 and W8: where players start (P_SpawnMapThing of p_mobj.c).
use Rattle.std.specs.Prelude.{◌≡◌, ℕ, ◌<◌, ◌≤◌, ℤ, pos, count_by, IsSomeAnd}
use Rattle.std.specs.Ordering.{int_eq}
use Rattle.std.specs.List.{slice_get}
use Rattle.map_level.specs.Level.{Level}
use Rattle.map_level.specs.Links.{things_of}

-- thing k is of a kind
abbrev pub IsOfKind : Level → ℤ → ℕ → Type 0
IsOfKind level kind k = IsSomeAnd (slice_get (things_of level) k) (λ thing. thing.kind ≡ kind)

-- no thing is of a kind
abbrev pub HasNone : Level → ℤ → Type 0
HasNone level kind = (k : ℕ) → ¬ IsOfKind level kind k

-- a player from 2 to 4 has no start, and those before have one
pub record IsWithoutStart (level : Level) (player : ℕ) : Type 0 where
  pub from : 2 ≤ player
  pub to : player ≤ 4
  pub none : HasNone level (pos player)
  pub first : (earlier : ℕ) → 2 ≤ earlier → earlier < player → (k : ℕ) × IsOfKind level (pos earlier) k

-- how many things are deathmatch starts, which are of kind 11
abbrev pub deathmatch_starts : Level → ℕ
deathmatch_starts level = count_by (λ thing. int_eq thing.kind (pos 11)) (things_of level)

-- so many things are deathmatch starts, fewer than 4 (G_DeathMatchSpawnPlayer of g_game.c)
abbrev pub AreFewStarts : Level → ℕ → Type 0
AreFewStarts level starts = (starts ≡ deathmatch_starts level) × (starts < 4)
