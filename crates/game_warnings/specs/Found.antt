-- The lump that the game finds under a name (W_CheckNumForName and W_CacheLumpNum of w_wad.c).
use Rattle.std.specs.Prelude.{◌≡◌, ◌⊎◌, ℕ, List, []}
use Rattle.wad_dir.specs.Entries.{names}
use Rattle.wad_dir.specs.Slice.{IsLump}
use Rattle.wad_dir.specs.Wad.{Wad}
use Rattle.wad_dir.specs.Winner.{Wins}

-- the lump of the entry that wins the name, where it stands inside its file
pub record IsFound (files : List Wad) (name lump : List ℕ) : Type 0 where
  pub g : ℕ
  pub wins : Wins (names files) name g
  pub holds : IsLump files g lump

-- the same, or nothing where no lump is found
abbrev pub IsFoundOrEmpty : List Wad → List ℕ → List ℕ → Type 0
IsFoundOrEmpty files name lump = IsFound files name lump ⊎ (((other : List ℕ) → ¬ IsFound files name other) × (lump ≡ []))
