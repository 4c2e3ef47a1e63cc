-- What holds of each of some things and of what stands beside it.
use Rattle.std.proofs.Common.{◌≡◌, ℕ, ◌<◌, List, [], ◌∷◌, length, get_or, arith}
use Rattle.std.proofs.lemmas.List.Elements.{All-cons, All-nil}
use Rattle.std.specs.List.{All}
use Rattle.map_geo.specs.Point.{Point}
use Rattle.map_level.specs.Level.{Level}
use Rattle.map_tree.specs.Child.{ssector_count}
use Rattle.map_tree.specs.Leaf.{Each, IsLeaf}
use Rattle.map_tree.specs.Sound.{IsSound}
use Rattle.map_tree.proofs.DescentLemmas.{leaf_within}

pub each_of_four : {A B : Type 0} (R : A → B → Type 0) (xs : List A) (d e f g : A) (s t u v : B) → length xs ≡ 4
    → R (get_or xs 0 d) s → R (get_or xs 1 e) t → R (get_or xs 2 f) u → R (get_or xs 3 g) v → Each R xs (s ∷ t ∷ u ∷ v ∷ [])
each_of_four R [] d e f g s t u v long h i j k = absurd (omega (arith, long))
each_of_four R (o ∷ []) d e f g s t u v long h i j k = absurd (omega (arith, long))
each_of_four R (o ∷ p ∷ []) d e f g s t u v long h i j k = absurd (omega (arith, long))
each_of_four R (o ∷ p ∷ q ∷ []) d e f g s t u v long h i j k = absurd (omega (arith, long))
each_of_four R (o ∷ p ∷ q ∷ r ∷ []) d e f g s t u v long h i j k = (h, (i, (j, (k, tt))))
each_of_four R (o ∷ p ∷ q ∷ r ∷ more ∷ xs) d e f g s t u v long h i j k = absurd (omega (arith, long))

pub all_of_four : {A : Type 0} (P : A → Type 0) (a b c d : A) → P a → P b → P c → P d → All P (a ∷ b ∷ c ∷ d ∷ [])
all_of_four P a b c d h i j k =
    All-cons P a (b ∷ c ∷ d ∷ []) h (All-cons P b (c ∷ d ∷ []) i (All-cons P c (d ∷ []) j (All-cons P d [] k (All-nil P))))

-- through the things between two lists
pub each_through : {A B C : Type 0} (R : A → B → Type 0) (S : B → C → Type 0) (T : A → C → Type 0) (xs : List A) (ys : List B) (zs : List C)
    → ((x : A) (y : B) (z : C) → R x y → S y z → T x z) → Each R xs ys → Each S ys zs → Each T xs zs
each_through R S T [] [] [] join first second = tt
each_through R S T [] [] (z ∷ zs) join first second = absurd second
each_through R S T [] (y ∷ ys) zs join first second = absurd first
each_through R S T (x ∷ xs) [] zs join first second = absurd first
each_through R S T (x ∷ xs) (y ∷ ys) [] join first second = absurd second
each_through R S T (x ∷ xs) (y ∷ ys) (z ∷ zs) join first second =
    (join x y z first.0 second.0, each_through R S T xs ys zs join first.1 second.1)

-- leaves are ssectors that are there
pub leaves_within : (level : Level) (points : List Point) (ts : List ℕ) → IsSound level → Each (IsLeaf level) points ts
    → All (λ t. t < ssector_count level) ts
leaves_within level [] [] sound leaves = All-nil (λ t. t < ssector_count level)
leaves_within level [] (t ∷ ts) sound leaves = absurd leaves
leaves_within level (point ∷ points) [] sound leaves = absurd leaves
leaves_within level (point ∷ points) (t ∷ ts) sound leaves =
    All-cons (λ t. t < ssector_count level) t ts (leaf_within level point t sound leaves.0) (leaves_within level points ts sound leaves.1)
