-- What a set of files lists: its textures (R_InitTextures of r_data.c) and its flats (R_FlatNumForName).
use Rattle.std.specs.Prelude.{◌≡◌, ◌⊎◌, ℕ, ◌+◌, ◌*◌, ◌<◌, ◌≤◌, pos, ◌<ℤ◌, List, Some, codes, length}
use Rattle.std.specs.List.{slice_get}
use Rattle.le_rec.specs.Name.{query_of}
use Rattle.le_rec.specs.Number.{name_at, signed32_at}
use Rattle.wad_dir.specs.Entries.{names}
use Rattle.wad_dir.specs.Slice.{IsLump}
use Rattle.wad_dir.specs.Wad.{Wad}
use Rattle.wad_dir.specs.Winner.{Wins}

-- a lump's offset of a number stands inside it, and its count, a signed one, reaches so far
pub record HasOffset (lump : List ℕ) (k : ℕ) : Type 0 where
  pub counted : pos k <ℤ signed32_at lump 0
  pub inside : 4 * k + 8 ≤ length lump

-- it has so many such offsets at most
abbrev pub HasFewOffsets : List ℕ → ℕ → Type 0
HasFewOffsets lump n = (k : ℕ) → HasOffset lump k → k < n

-- the eight bytes at the offset of a number stand inside the lump and have a name, which is compared without case
pub record IsNameAt (lump : List ℕ) (k : ℕ) (name : List ℕ) : Type 0 where
  pub at : ℕ
  pub placed : signed32_at lump (4 * k + 4) ≡ pos at
  pub inside : at + 8 ≤ length lump
  pub named : name ≡ query_of (name_at lump at)

-- a lump lists a texture of a name: at one of the offsets behind its count (maptexture_t of r_data.c)
pub record ListsTexture (lump : List ℕ) (name : List ℕ) : Type 0 where
  pub k : ℕ
  pub offset : HasOffset lump k
  pub here : IsNameAt lump k name

-- the lump that the game finds under a name, where it stands inside its file
pub record IsFound (files : List Wad) (name lump : List ℕ) : Type 0 where
  pub g : ℕ
  pub wins : Wins (names files) name g
  pub holds : IsLump files g lump

-- the lump that is found under a name has so many offsets at most, if one is found
abbrev pub ListsFew : List Wad → List ℕ → ℕ → Type 0
ListsFew files under n = (lump : List ℕ) → IsFound files under lump → HasFewOffsets lump n

-- the lump that is found under a name lists a texture
abbrev pub IsListedUnder : List Wad → List ℕ → List ℕ → Type 0
IsListedUnder files under name = (lump : List ℕ) × IsFound files under lump × ListsTexture lump name

-- a texture of the set: the lump of TEXTURE1 or that of TEXTURE2 lists it
abbrev pub IsTexture : List Wad → List ℕ → Type 0
IsTexture files name = IsListedUnder files (codes "TEXTURE1") name ⊎ IsListedUnder files (codes "TEXTURE2") name

-- there are textures where the lump of TEXTURE1 is found
abbrev pub HasTextures : List Wad → Type 0
HasTextures files = (lump : List ℕ) × IsFound files (codes "TEXTURE1") lump

-- an entry of the set has a name
abbrev pub HasEntry : List Wad → List ℕ → Type 0
HasEntry files name = (g : ℕ) × (slice_get (names files) g ≡ Some name)

-- there are flats where an entry is their start
abbrev pub HasFlats : List Wad → Type 0
HasFlats files = HasEntry files (codes "F_START")

-- and an end where an entry is that
abbrev pub HasFlatEnd : List Wad → Type 0
HasFlatEnd files = HasEntry files (codes "F_END")
