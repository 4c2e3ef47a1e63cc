-- The entries that looking up the labels of levels gives (W_CheckNumForName of w_wad.c).
use Rattle.std.specs.Prelude.{◌≡◌, ◌≢◌, ℕ, ◌<◌, List, Some, IsSome, Option, length}
use Rattle.std.specs.BTreeMap.{BTreeMap, get}
use Rattle.std.specs.Cmp.Lexicographic.{slice_cmp}
use Rattle.std.specs.List.{slice_get}
use Rattle.std.specs.Ordering.{nat_cmp}
use Rattle.le_rec.specs.Name.{name_of, padded}
use Rattle.level_starts.specs.Starts.{LevelStartsAt}

-- an entry that has the name whose eight bytes these are, and none behind it below n has
pub record IsHolder (all : List (List ℕ)) (n : ℕ) (bytes : List ℕ) (holder : ℕ) : Type 0 where
  pub stored : bytes ≡ padded (name_of bytes)
  pub named : slice_get all holder ≡ Some (name_of bytes)
  pub last : (h : ℕ) → holder < h → h < n → slice_get all h ≢ Some (name_of bytes)

-- the holder of each name of a map
abbrev pub holder_at : BTreeMap (List ℕ) ℕ → List ℕ → Option ℕ
holder_at holders bytes = get (slice_cmp nat_cmp) holders bytes

abbrev pub AreHolders : List (List ℕ) → ℕ → BTreeMap (List ℕ) ℕ → Type 0
AreHolders all n holders = (bytes : List ℕ) (holder : ℕ) → holder_at holders bytes ≡ Some holder → IsHolder all n bytes holder

-- a map with one holder put
pub record PutsHolder (before after : BTreeMap (List ℕ) ℕ) (bytes : List ℕ) (holder : ℕ) : Type 0 where
  pub put : holder_at after bytes ≡ Some holder
  pub others : (other : List ℕ) → other ≢ bytes → holder_at after other ≡ holder_at before other

-- a name is among those of a map
abbrev pub HasName : BTreeMap (List ℕ) ℕ → List ℕ → Type 0
HasName holders name = IsSome (holder_at holders (padded name))

-- a map keeps the names of another
abbrev pub HasNames : BTreeMap (List ℕ) ℕ → BTreeMap (List ℕ) ℕ → Type 0
HasNames before after = (bytes : List ℕ) → IsSome (holder_at before bytes) → IsSome (holder_at after bytes)

-- the labels of the levels that start below an entry are among the names of a map
abbrev pub HasLabelsBelow : List (List ℕ) → ℕ → BTreeMap (List ℕ) ℕ → Type 0
HasLabelsBelow all n holders =
    (g : ℕ) (name : List ℕ) → g < n → LevelStartsAt all g → slice_get all g ≡ Some name → HasName holders name

-- each holder of a map is an entry at which a level starts
abbrev pub AreOfLabels : List (List ℕ) → BTreeMap (List ℕ) ℕ → Type 0
AreOfLabels all holders = (bytes : List ℕ) (holder : ℕ) → holder_at holders bytes ≡ Some holder → LevelStartsAt all holder

-- the last entry of each label's name
pub record AreLabelHolders (all : List (List ℕ)) (holders : BTreeMap (List ℕ) ℕ) : Type 0 where
  pub last : AreHolders all (length all) holders
  pub labels : HasLabelsBelow all (length all) holders
