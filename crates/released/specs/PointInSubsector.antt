-- The ssector of a point as the released game finds it (R_PointInSubsector of r_main.c, linuxdoom 1.10).
use Rattle.std.specs.Prelude.{◌≡◌, ℕ, zero, suc, ◌-◌, ◌<◌, ◌≤◌, ℤ, List, length, Some}
use Rattle.std.specs.List.{slice_get}
use Rattle.le_rec.specs.declared.records.Node.{Node}
use Rattle.map_geo.specs.Point.{Point}
use Rattle.map_tree.specs.Child.{word_at}
use Rattle.released.specs.PointOnSide.{fixed, fixed_node, released_side}

-- the loop comes from this word to this ssector: a word that names a node is followed by that of its
-- child at the side that R_PointOnSide gives, and one with the bit 32768 (NF_SUBSECTOR) ends it
pub data Finds (nodes : List Node) (x y : ℤ) : ℕ → ℕ → Type 0 where
  at_ssector : (word t : ℕ) → 32768 ≤ word → t ≡ word - 32768 → Finds nodes x y word t
  at_node : (word t : ℕ) (found : Node) → word < 32768 → slice_get nodes word ≡ Some found
      → Finds nodes x y (word_at found (released_side x y (fixed_node found))) t
      → Finds nodes x y word t

-- it begins at the last of so many nodes, and gives ssector 0 where there are none
abbrev pub first_word : ℕ → ℕ
first_word zero = 32768
first_word (suc n) = n

-- R_PointInSubsector, for a point in whole units
abbrev pub FindsSsector : List Node → Point → ℕ → Type 0
FindsSsector nodes point t =
    Finds nodes (fixed point.x) (fixed point.y) (first_word (length nodes)) t
