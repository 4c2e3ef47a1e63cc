-- W22: textures that lack a patch (R_InitTextures of r_data.c, with its maptexture_t and mappatch_t).
use Rattle.std.specs.Prelude.{◌≡◌, ◌↔◌, ◌⊎◌, Bool, false, IsTrue, slice_index_or, ℕ, ◌+◌, ◌-◌, ◌*◌, ◌/◌, ◌<◌, ◌≤◌, ◌<ℤ◌, ℤ, pos, negsuc, List, Option, Some, None, codes, length, min, nat_le, sum_by, if◌then◌else◌, IsSomeAnd}
use Rattle.std.specs.List.{range_with_len}
use Rattle.std.specs.Option.{option_map_or}
use Rattle.le_rec.specs.Name.{query_of}
use Rattle.le_rec.specs.Number.{name_at, signed16_at, signed32_at}
use Rattle.wad_dir.specs.Wad.{Wad}
use Rattle.game_warnings.specs.First.{IsFirst}
use Rattle.game_warnings.specs.Found.{IsFound, IsFoundOrEmpty}

-- a signed number that counts: none below 0
abbrev pub counted : ℤ → ℕ
counted (pos n) = n
counted (negsuc n) = 0

-- how many numbers of so many bytes, behind a count of four, a lump has
abbrev pub listed_count : ℕ → List ℕ → ℕ
listed_count size lump = min ((length lump - 4) / size) (counted (signed32_at lump 0))

-- how many patches the record at a place has
abbrev pub patch_count : List ℕ → ℕ → ℕ
patch_count lump at = counted (signed16_at lump (at + 20))

-- the record at a place is wholly inside its lump, with its patches
abbrev pub record_in : List ℕ → ℤ → Option ℕ
record_in lump (pos at) = if nat_le (at + 22 + 10 * patch_count lump at) (length lump) then Some at else None
record_in lump (negsuc n) = None

-- where the texture of number k stands, where that is so
abbrev pub texture_at : List ℕ → ℕ → Option ℕ
texture_at lump k = record_in lump (signed32_at lump (4 * k + 4))

-- how many patches it has, and how many all have
abbrev pub patches_of : List ℕ → ℕ → ℕ
patches_of lump k = option_map_or (patch_count lump) (texture_at lump k) 0

abbrev pub patch_total : List ℕ → ℕ
patch_total lump = sum_by (patches_of lump) (range_with_len 0 (listed_count 4 lump))

-- the number of patch j of the record at a place
abbrev pub patch_at : List ℕ → ℕ → ℕ → ℤ
patch_at lump at j = signed16_at lump (at + 22 + 10 * j + 4)

-- a patch's number is there: PNAMES lists it, and the lump of its name is found
pub record IsThere (files : List Wad) (pnames : List ℕ) (m : ℕ) : Type 0 where
  pub listed : m < listed_count 8 pnames
  pub lump : List ℕ
  pub found : IsFound files (query_of (name_at pnames (4 + 8 * m))) lump

abbrev pub IsPatchThere : List Wad → List ℕ → ℤ → Type 0
IsPatchThere files pnames (pos m) = IsThere files pnames m
IsPatchThere files pnames (negsuc n) = ⊥

-- the record at a place lacks a patch
pub record LacksOne (files : List Wad) (pnames lump : List ℕ) (at : ℕ) : Type 0 where
  pub j : ℕ
  pub below : j < patch_count lump at
  pub none : ¬ IsPatchThere files pnames (patch_at lump at j)

-- so does the texture of number k
pub record LacksAt (files : List Wad) (pnames lump : List ℕ) (k : ℕ) : Type 0 where
  pub listed : k < listed_count 4 lump
  pub lacks : IsSomeAnd (texture_at lump k) (LacksOne files pnames lump)

-- the first texture of a lump that does, by its name's bytes
pub record IsFirstLacking (files : List Wad) (pnames lump bytes : List ℕ) : Type 0 where
  pub k : ℕ
  pub first : IsFirst (LacksAt files pnames lump) k
  pub named : IsSomeAnd (texture_at lump k) (λ at. bytes ≡ name_at lump at)

-- no texture of a lump does
abbrev pub LackNone : List Wad → List ℕ → List ℕ → Type 0
LackNone files pnames lump = (k : ℕ) → ¬ LacksAt files pnames lump k

-- the lumps of the textures and of the patches' names; they are gone through where they have no more than 16,777,216 patches in all
pub record AreTextureLumps (files : List Wad) (first second pnames : List ℕ) : Type 0 where
  pub texture1 : IsFound files (codes "TEXTURE1") first
  pub texture2 : IsFoundOrEmpty files (codes "TEXTURE2") second
  pub patches : IsFound files (codes "PNAMES") pnames
  pub few : patch_total first + patch_total second ≤ 16777216

-- the first texture of the set that lacks a patch, by its name's bytes
pub record LacksPatch (files : List Wad) (bytes : List ℕ) : Type 0 where
  pub first : List ℕ
  pub second : List ℕ
  pub pnames : List ℕ
  pub lumps : AreTextureLumps files first second pnames
  pub lacks : IsFirstLacking files pnames first bytes ⊎ (LackNone files pnames first × IsFirstLacking files pnames second bytes)

-- the first texture of a lump that lacks a patch is known, where one does
abbrev pub IsLackingIn : List Wad → List ℕ → List ℕ → Option (List ℕ) → Type 0
IsLackingIn files pnames lump (Some bytes) = IsFirstLacking files pnames lump bytes
IsLackingIn files pnames lump None = LackNone files pnames lump

-- for each name of PNAMES whether the patch of its number is there
pub record AreThere (files : List Wad) (pnames : List ℕ) (there : List Bool) : Type 0 where
  pub long : length there ≡ listed_count 8 pnames
  pub told : (m : ℕ) → m < listed_count 8 pnames → IsTrue (slice_index_or there m false) ↔ IsThere files pnames m
