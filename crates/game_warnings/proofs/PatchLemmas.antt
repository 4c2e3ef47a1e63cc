-- One texture at most is told of as lacking a patch.
use Rattle.std.proofs.Common.{◌≡◌, ◌≢◌, ◌↔◌, ◌⊎◌, inl, inr, ℕ, ◌+◌, ◌*◌, ◌<◌, ◌≤◌, ℤ, pos, negsuc, Bool, true, false, List, [], ◌∷◌, ◌++◌, length, get_or, take, zero-add, Option, Some, None, refl, sym, ap, subst, ◌∙◌, arith}
use Rattle.std.specs.Prelude.{codes, sum_by, IsSomeAnd, IsTrue}
use Rattle.std.specs.List.{range_with_len}
use Rattle.std.proofs.lemmas.Bool.{cases_lt}
use Rattle.std.proofs.lemmas.List.{get_or_append_left, get_or_push, length-append, take_all}
use Rattle.std.proofs.lemmas.List.FromFn.{get_or-range_with_len, length-range_with_len}
use Rattle.std.proofs.lemmas.List.Sums.{sum_by_more}
use Rattle.le_rec.specs.Name.{query_of}
use Rattle.le_rec.specs.Number.{name_at}
use Rattle.wad_dir.specs.Wad.{Wad}
use Rattle.game_warnings.specs.First.{IsFirst, IsFirstBelow}
use Rattle.game_warnings.specs.Found.{IsFound, IsFoundOrEmpty}
use Rattle.game_warnings.specs.Graphics.{IsLacking}
use Rattle.game_warnings.specs.Patches.{listed_count, patch_at, patch_count, patch_total, patches_of, texture_at, AreTextureLumps, AreThere, IsPatchThere, IsThere, IsFirstLacking, IsLackingIn, LackNone, LacksAt, LacksOne, LacksPatch}
use Rattle.game_warnings.proofs.FirstLemmas.{at_as, both_at, first_none, first_one, from_at}
use Rattle.game_warnings.proofs.FoundLemmas.{found_one, found_or_empty_one}

first_lacking_one : (files : List Wad) (pnames lump a b : List ℕ) → IsFirstLacking files pnames lump a → IsFirstLacking files pnames lump b → a ≡ b
first_lacking_one files pnames lump a b p q =
    let same : p.k ≡ q.k = first_one (LacksAt files pnames lump) p.k q.k p.first q.first in
    let here = subst (λ k. IsSomeAnd (texture_at lump k) (λ at. a ≡ name_at lump at)) same p.named in
    from_at (texture_at lump q.k) (λ at. (a ≡ name_at lump at) × (b ≡ name_at lump at)) (a ≡ b) (λ at both. both.0 ∙ sym both.1)
    (both_at (texture_at lump q.k) (λ at. a ≡ name_at lump at) (λ at. b ≡ name_at lump at) here q.named)

abbrev Two : List Wad → List ℕ → List ℕ → List ℕ → List ℕ → Type 0
Two files pnames first second bytes =
    IsFirstLacking files pnames first bytes ⊎ (LackNone files pnames first × IsFirstLacking files pnames second bytes)

two_one : (files : List Wad) (pnames first second a b : List ℕ) → Two files pnames first second a → Two files pnames first second b → a ≡ b
two_one files pnames first second a b (inl p) (inl q) = first_lacking_one files pnames first a b p q
two_one files pnames first second a b (inl p) (inr q) = absurd (q.0 p.k p.first.here)
two_one files pnames first second a b (inr p) (inl q) = absurd (p.0 q.k q.first.here)
two_one files pnames first second a b (inr p) (inr q) = first_lacking_one files pnames second a b p.1 q.1

-- the lumps of a set are known
two_as : (files : List Wad) (first second pnames first' second' pnames' bytes : List ℕ) → AreTextureLumps files first second pnames
    → AreTextureLumps files first' second' pnames' → Two files pnames' first' second' bytes → Two files pnames first second bytes
two_as files first second pnames first' second' pnames' bytes p q two =
    let one : first' ≡ first = found_one files (codes "TEXTURE1") first' first q.texture1 p.texture1 in
    let other : second' ≡ second = found_or_empty_one files (codes "TEXTURE2") second' second q.texture2 p.texture2 in
    let list : pnames' ≡ pnames = found_one files (codes "PNAMES") pnames' pnames q.patches p.patches in
    subst (λ x. Two files x first second bytes) list (subst (λ x. Two files pnames' x second bytes) one (subst (λ x. Two files pnames' first' x bytes) other two))

pub lacks_one : (files : List Wad) (a b : List ℕ) → LacksPatch files a → LacksPatch files b → a ≡ b
lacks_one files a b p q =
    two_one files p.pnames p.first p.second a b p.lacks (two_as files p.first p.second p.pnames q.first q.second q.pnames b p.lumps q.lumps q.lacks)

-- what is found in the two lumps is what holds of the set
module _ (files : List Wad) (first second pnames : List ℕ) (lumps : AreTextureLumps files first second pnames) where
  pub lacks_first : (bytes : List ℕ) → IsFirstLacking files pnames first bytes → LacksPatch files bytes
  lacks_first bytes lacking = record { first = first; second = second; pnames = pnames; lumps = lumps; lacks = inl lacking }

  pub lacks_second : (bytes : List ℕ) → LackNone files pnames first → IsFirstLacking files pnames second bytes → LacksPatch files bytes
  lacks_second bytes none lacking = record { first = first; second = second; pnames = pnames; lumps = lumps; lacks = inr (none, lacking) }

  pub lacks_none : LackNone files pnames first → LackNone files pnames second → (bytes : List ℕ) → ¬ LacksPatch files bytes
  lacks_none none nothing bytes lacks =
      elim (two_as files first second pnames lacks.first lacks.second lacks.pnames bytes lumps lacks.lumps lacks.lacks) [
        | inl one ↦ none one.k one.first.here
        | inr two ↦ nothing two.1.k two.1.first.here
      ]

  pub lacks_of_two : (o : Option (List ℕ)) → LackNone files pnames first → IsLackingIn files pnames second o → IsLacking files o
  lacks_of_two (Some bytes) none lacking = lacks_second bytes none lacking
  lacks_of_two None none nothing = lacks_none none nothing

-- more patches than are gone through
pub lacks_of_many : (files : List Wad) (first second : List ℕ) → IsFound files (codes "TEXTURE1") first → IsFoundOrEmpty files (codes "TEXTURE2") second
    → 16777216 < patch_total first + patch_total second → (bytes : List ℕ) → ¬ LacksPatch files bytes
lacks_of_many files first second one two many bytes lacks =
    let same : lacks.first ≡ first = found_one files (codes "TEXTURE1") lacks.first first lacks.lumps.texture1 one in
    let other : lacks.second ≡ second = found_or_empty_one files (codes "TEXTURE2") lacks.second second lacks.lumps.texture2 two in
    absurd (omega (arith, many, lacks.lumps.few, ap patch_total same, ap patch_total other))

-- the patches of one texture more, and of all
pub total_more : (lump : List ℕ) (k total more : ℕ) → k < listed_count 4 lump → total ≡ sum_by (patches_of lump) (take k (range_with_len 0 (listed_count 4 lump)))
    → more ≡ patches_of lump k → total + more ≡ sum_by (patches_of lump) (take (k + 1) (range_with_len 0 (listed_count 4 lump)))
total_more lump k total more below is own =
    let numbers = range_with_len 0 (listed_count 4 lump) in
    let inside : k < length numbers = omega (arith, below, length-range_with_len 0 (listed_count 4 lump)) in
    let number : get_or numbers k 0 ≡ k = get_or-range_with_len 0 (listed_count 4 lump) k 0 below ∙ zero-add k in
    let step = sum_by_more (patches_of lump) numbers k 0 inside in
    let here : patches_of lump (get_or numbers k 0) ≡ more = ap (patches_of lump) number ∙ sym own in
    omega (arith, is, step, here)

pub total_all : (lump : List ℕ) (k total : ℕ) → listed_count 4 lump ≤ k → total ≡ sum_by (patches_of lump) (take k (range_with_len 0 (listed_count 4 lump)))
    → total ≡ patch_total lump
total_all lump k total past is =
    let numbers = range_with_len 0 (listed_count 4 lump) in
    is ∙ ap (sum_by (patches_of lump)) (take_all k numbers (omega (arith, past, length-range_with_len 0 (listed_count 4 lump))))

-- the first texture of a lump that lacks a patch, from those before it
pub lacking_here : (files : List Wad) (pnames lump bytes : List ℕ) (k : ℕ) → k < listed_count 4 lump
    → IsSomeAnd (texture_at lump k) (λ at. LacksOne files pnames lump at × (bytes ≡ name_at lump at))
    → ((j : ℕ) → j < k → ¬ LacksAt files pnames lump j) → IsFirstLacking files pnames lump bytes
lacking_here files pnames lump bytes k below here before = record {
  k = k;
  first = record {
    here = record { listed = below; lacks = at_as (texture_at lump k) (λ at. LacksOne files pnames lump at × (bytes ≡ name_at lump at)) (LacksOne files pnames lump) (λ at both. both.0) here };
    before = before;
  };
  named = at_as (texture_at lump k) (λ at. LacksOne files pnames lump at × (bytes ≡ name_at lump at)) (λ at. bytes ≡ name_at lump at) (λ at both. both.1) here;
}

pub lacking_past : (files : List Wad) (pnames lump : List ℕ) (n : ℕ) → listed_count 4 lump ≤ n → ((j : ℕ) → j < n → ¬ LacksAt files pnames lump j)
    → LackNone files pnames lump
lacking_past files pnames lump n past none k lacks = none k (omega (arith, past, lacks.listed)) lacks

pub lacking_more : (files : List Wad) (pnames lump : List ℕ) (n : ℕ) → ((j : ℕ) → j < n → ¬ LacksAt files pnames lump j)
    → (¬ IsSomeAnd (texture_at lump n) (LacksOne files pnames lump)) → (j : ℕ) → j < n + 1 → ¬ LacksAt files pnames lump j
lacking_more files pnames lump n none other j below = elim (cases_lt j n) [
  | inl less ↦ none j less
  | inr past ↦ let here : j ≡ n = omega (arith, past, below) in λ lacks. other (subst (λ k. IsSomeAnd (texture_at lump k) (LacksOne files pnames lump)) here lacks.lacks)
]

-- the patches of a record
pub lacks_at : (files : List Wad) (pnames lump : List ℕ) (at j : ℕ) → j < patch_count lump at → (¬ IsPatchThere files pnames (patch_at lump at j))
    → IsTrue true ↔ LacksOne files pnames lump at
lacks_at files pnames lump at j below none = (λ _. record { j = j; below = below; none = none }, λ _. refl)

pub lacks_past : (files : List Wad) (pnames lump : List ℕ) (at n : ℕ) → patch_count lump at ≤ n
    → ((j : ℕ) → j < n → IsPatchThere files pnames (patch_at lump at j)) → IsTrue false ↔ LacksOne files pnames lump at
lacks_past files pnames lump at n past all = (
  λ no. absurd (let gone = no in cc),
  λ lacks. absurd (lacks.none (all lacks.j (omega (arith, past, lacks.below)))),
)

pub there_more : (files : List Wad) (pnames lump : List ℕ) (at n : ℕ) → ((j : ℕ) → j < n → IsPatchThere files pnames (patch_at lump at j))
    → IsPatchThere files pnames (patch_at lump at n) → (j : ℕ) → j < n + 1 → IsPatchThere files pnames (patch_at lump at j)
there_more files pnames lump at n all here j below = elim (cases_lt j n) [
  | inl less ↦ all j less
  | inr past ↦ let same : j ≡ n = omega (arith, past, below) in subst (λ k. IsPatchThere files pnames (patch_at lump at k)) (sym same) here
]

-- for one name of PNAMES more whether its lump is found
pub record AreThereBelow (files : List Wad) (pnames : List ℕ) (n : ℕ) (there : List Bool) : Type 0 where
  pub long : length there ≡ n
  pub told : (m : ℕ) → m < n → IsTrue (get_or there m false) ↔ IsThere files pnames m

pub there_none : (files : List Wad) (pnames : List ℕ) → AreThereBelow files pnames 0 []
there_none files pnames = record { long = refl; told = λ m below. absurd (omega (arith, below)) }

pub there_pushed : (files : List Wad) (pnames : List ℕ) (n : ℕ) (there : List Bool) (b : Bool) → n < listed_count 8 pnames → AreThereBelow files pnames n there
    → IsTrue b ↔ ((lump : List ℕ) × IsFound files (query_of (name_at pnames (4 + 8 * n))) lump) → AreThereBelow files pnames (n + 1) (there ++ b ∷ [])
there_pushed files pnames n there b listed are found = record {
  long = omega (arith, length-append there (b ∷ []), are.long);
  told = λ m below. elim (cases_lt m n) [
    | inl less ↦
        let here : m < length there = omega (arith, less, are.long) in
        let kept = get_or_append_left there (b ∷ []) false m here in
        subst (λ x. IsTrue x ↔ IsThere files pnames m) (sym kept) (are.told m less)
    | inr past ↦
        let same : n ≡ m = omega (arith, past, below) in
        let pushed : get_or (there ++ b ∷ []) m false ≡ b = get_or_push there b false m (are.long ∙ same) in
        let own : IsTrue b ↔ IsThere files pnames n = (
          λ yes_it. let one = found.0 yes_it in record { listed = listed; lump = one.0; found = one.1 },
          λ is. found.1 (is.lump, is.found),
        ) in
        subst (λ x. IsTrue x ↔ IsThere files pnames m) (sym pushed) (subst (λ k. IsTrue b ↔ IsThere files pnames k) same own)
  ];
}

pub there_all : (files : List Wad) (pnames : List ℕ) (n : ℕ) (there : List Bool) → n ≡ listed_count 8 pnames → AreThereBelow files pnames n there → AreThere files pnames there
there_all files pnames n there all are = record {
  long = are.long ∙ all;
  told = λ m below. are.told m (omega (arith, below, all));
}
