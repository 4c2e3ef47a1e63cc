-- The format of a level that starts at an entry: the first that holds of six (their order: ours).
use Rattle.std.specs.Prelude.{◌≡◌, ℕ, ◌+◌, ◌-◌, ◌<◌, ◌≤◌, List, [], ◌∷◌, ◌++◌, Option, Some, None, take, codes, nat_eq, if◌then◌else◌}
use Rattle.std.specs.List.{slice_get, starts_with}
use Rattle.std.specs.Option.{option_or}
use Rattle.wad_dir.specs.Wad.{Wad}
use Rattle.wad_dir.specs.Entries.{names}
use Rattle.wad_dir.specs.Slice.{IsLump}
use Rattle.map_level.specs.LinkFaults.{usual_names}
use Rattle.map_level.specs.Opening.{IsOutsideFile, AreThereBelow}
use Rattle.level_starts.specs.Starts.{IsNamed}
use Rattle.level_starts.specs.declared.format.Format.{Format}
use Rattle.level_starts.specs.declared.format.Format.TheVariants.{Udmf, Incomplete, Hexen, Outside, Extended, Doom}

-- the entry after the label is named TEXTMAP (UDMF specification)
abbrev pub IsUdmf : List Wad → ℕ → Type 0
IsUdmf files g = IsNamed (names files) (g + 1) (codes "TEXTMAP")

-- the entry of place k, from 1 to 10, is there and has the place's usual name (doomdata.h)
abbrev pub IsUsual : List Wad → ℕ → ℕ → Type 0
IsUsual files g k = slice_get (names files) (g + k) ≡ slice_get usual_names (k - 1)

-- those of the places from 2 on that are below one have their usual names
abbrev pub AreUsualBelow : List Wad → ℕ → ℕ → Type 0
AreUsualBelow files g k = (j : ℕ) → 2 ≤ j → j < k → IsUsual files g j

-- place k is the first from 2 to 10 whose entry isn't there or has another name
pub record IsIncomplete (files : List Wad) (g k : ℕ) : Type 0 where
  pub from : 2 ≤ k
  pub to : k ≤ 10
  pub before : AreUsualBelow files g k
  pub other : ¬ IsUsual files g k

-- the entry of place 11 is there and named BEHAVIOR (unofficial Hexen specs)
abbrev pub IsHexen : List Wad → ℕ → Type 0
IsHexen files g = IsNamed (names files) (g + 11) (codes "BEHAVIOR")

-- the first four bytes of the first of some beginnings that bytes have
abbrev pub tag_by : List (List ℕ) → List ℕ → Option (List ℕ)
tag_by [] bytes = None
tag_by (beginning ∷ others) bytes =
    if starts_with nat_eq bytes beginning then Some (take 4 beginning) else tag_by others bytes

-- how NODES begins in extended formats: those of ZDBSP, and that of DeePBSP
abbrev pub node_beginnings : List (List ℕ)
node_beginnings = codes "XNOD" ∷ codes "ZNOD" ∷ (codes "xNd4" ++ 0 ∷ 0 ∷ 0 ∷ 0 ∷ []) ∷ []

-- how SSECTORS begins where it holds the nodes, as GL nodes (ZDBSP)
abbrev pub ssector_beginnings : List (List ℕ)
ssector_beginnings =
    codes "XGLN" ∷ codes "ZGLN" ∷ codes "XGL2" ∷ codes "ZGL2" ∷ codes "XGL3" ∷ codes "ZGL3" ∷ []

-- the tag of both lumps: that of NODES, and where it has none that of SSECTORS
abbrev pub tag_of : List ℕ → List ℕ → Option (List ℕ)
tag_of nodes ssectors = option_or (tag_by node_beginnings nodes) (tag_by ssector_beginnings ssectors)

-- the lumps NODES and SSECTORS of a level have a tag, or none
pub record HasTag (files : List Wad) (g : ℕ) (tag : Option (List ℕ)) : Type 0 where
  pub nodes : List ℕ
  pub ssectors : List ℕ
  pub nodes_there : IsLump files (g + 7) nodes
  pub ssectors_there : IsLump files (g + 6) ssectors
  pub tagged : tag ≡ tag_of nodes ssectors

-- not UDMF, and the entries of the places from 2 to 10 have their usual names
abbrev pub IsWhole : List Wad → ℕ → Type 0
IsWhole files g = (¬ IsUdmf files g) × AreUsualBelow files g 11

-- that, and not Hexen's
abbrev pub IsPlain : List Wad → ℕ → Type 0
IsPlain files g = IsWhole files g × (¬ IsHexen files g)

-- that, and all ten lumps are in their files
abbrev pub IsInside : List Wad → ℕ → Type 0
IsInside files g = IsPlain files g × AreThereBelow files g 11

-- the format of the level that starts at an entry: what tells it holds, and nothing that tells one
-- before it
abbrev pub IsFormat : List Wad → ℕ → Format → Type 0
IsFormat files g Udmf = IsUdmf files g
IsFormat files g (Incomplete k) = (¬ IsUdmf files g) × IsIncomplete files g k
IsFormat files g Hexen = IsWhole files g × IsHexen files g
IsFormat files g (Outside k) = IsPlain files g × IsOutsideFile files g k
IsFormat files g (Extended tag) = IsInside files g × HasTag files g (Some tag)
IsFormat files g Doom = IsInside files g × HasTag files g None
