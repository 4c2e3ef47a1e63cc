-- The sector of a leaf.
use Rattle.std.proofs.Common.{◌≡◌, ℕ, Some}
use Rattle.std.proofs.lemmas.List.{length-map}
use Rattle.map_geo.specs.Point.{Point}
use Rattle.map_level.proofs.LinkedLemmas.{linked_sector}
use Rattle.map_level.specs.Level.{Level}
use Rattle.map_level.specs.Reading.{ssector_under}
use Rattle.map_level.specs.SectorOf.{sector_of}
use Rattle.map_tree.proofs.DescentLemmas.{leaf_within}
use Rattle.map_tree.proofs.SoundLemmas.{linked_from_sound}
use Rattle.map_tree.specs.Leaf.{IsLeaf}
use Rattle.map_tree.specs.Sound.{IsSound}

-- a leaf of a sound level has one
pub sector_there : (level : Level) (point : Point) (t : ℕ) → IsSound level → IsLeaf level point t → (s : ℕ) × (sector_of level t ≡ Some s)
sector_there level point t sound leaf =
    linked_sector level (linked_from_sound level sound) t
    (rw (length-map level.ssectors.records (ssector_under level.reading)) (leaf_within level point t sound leaf))
