-- What a level that is sound under one reading has under the other (ours).
use Rattle.std.specs.Prelude.{◌≡◌, ℕ, List, All}
use Rattle.le_rec.specs.Bytes.{AreBytes}
use Rattle.wad_dir.specs.Wad.{Wad}
use Rattle.map_geo.specs.Point.{Point}
use Rattle.map_level.specs.Level.{Level}
use Rattle.map_level.specs.SectorOf.{sector_of}
use Rattle.map_tree.specs.Leaf.{IsLeaf}
use Rattle.map_tree.specs.Sound.{IsSound}

-- each file is a list of bytes
abbrev pub AreFiles : List Wad → Type 0
AreFiles files = All (λ file. AreBytes file.bytes) files

-- another level is sound; in it each point has the same leaf, and each ssector the same sector
pub record KeepsSound (level other : Level) : Type 0 where
  pub sound : IsSound other
  pub leaf : (point : Point) (t : ℕ) → IsLeaf level point t → IsLeaf other point t
  pub sector : (t : ℕ) → sector_of other t ≡ sector_of level t
