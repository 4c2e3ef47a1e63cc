-- Numbers of ends: in order, as they were, and where none stands twice, so that no linedef lies on an earlier one.
use Rattle.std.proofs.Common.{◌≡◌, ◌≢◌, ◌↔◌, ℕ, ◌+◌, ◌-◌, ◌<◌, ◌≤◌, List, [], ◌∷◌, ◌++◌, Option, Some, None, length, get_or, take, refl, sym, ap, ◌∙◌, arith}
use Rattle.std.specs.Prelude.{◌==◌, IsSomeAnd, option_to_list}
use Rattle.std.specs.Option.{option_map}
use Rattle.std.specs.List.{flat_map, slice_get}
use Rattle.std.specs.List.Sorted.{IsNonDecreasing, IsPermutation, IsSorted}
use Rattle.std.specs.Ordering.{nat_cmp}
use Rattle.std.proofs.lemmas.Bool.Decides.{Decides-eqb, Decides-like, same_from_decides}
use Rattle.std.proofs.lemmas.List.{length-take, take-take, get_or-take, flat_map_more, take_all, take_more}
use Rattle.std.proofs.lemmas.List.Concat.{get_or-flat_map}
use Rattle.std.proofs.lemmas.List.Folds.{flat_map-map, length-flat_map-take}
use Rattle.std.proofs.lemmas.List.Sorted.{IsNonDecreasingBy-from_sort, IsPermutation-sym}
use Rattle.std.proofs.lemmas.Option.{get_or_from_slice_get, slice_get_within}
use Rattle.std.proofs.lemmas.Map.Keys.{IsDistinct-IsPermutation}
use Rattle.std.proofs.lemmas.Map.Made.{AllPairs-from_IsDistinct, IsDistinct-from_AllPairs}
use Rattle.std.proofs.lemmas.Grind.{get_or_default_zero}
use Rattle.le_rec.specs.declared.records.LineDef.{LineDef}
use Rattle.map_level.specs.Level.{Level}
use Rattle.map_level.specs.Links.{linedefs_of, ◌>>=◌}
use Rattle.map_level.specs.Reading.{linedef_under}
use Rattle.map_warnings.specs.declared.twins.Ends.{Ends}
use Rattle.map_warnings.specs.Twin.{ends_of_linedef, AreSamePlaces}
use Rattle.map_warnings.specs.EndsKey.{AreApart, ends_key, keys_of, keys_of_linedef}
use Rattle.map_warnings.specs.declared.warning.Warning.{Warning}
use Rattle.map_warnings.specs.declared.warning.Warning.TheVariants.{Twin, Game}
use Rattle.level_codes.specs.declared.code.WarningCode.TheVariants.{W6}
use Rattle.map_warnings.specs.Holds.{HoldsOf}
use Rattle.map_warnings.proofs.TwinLemmas.{key_of_same}
use Rattle.map_warnings.proofs.GameLemmas.{game_only}

flips : (a b : ℕ) → (a == b) ≡ (b == a)
flips a b = same_from_decides {P = a ≡ b} (a == b) (b == a) (Decides-eqb a b) (Decides-like (b == a) sym sym (Decides-eqb b a))

-- the same numbers in another order
moved : (xs ys : List ℕ) → IsPermutation xs ys → AreApart xs → AreApart ys
moved xs ys moves apart =
    AllPairs-from_IsDistinct Decides-eqb ys (IsDistinct-IsPermutation (λ a b. a == b) flips xs ys moves (IsDistinct-from_AllPairs Decides-eqb xs apart))

pub apart_in_order : (xs ys : List ℕ) → IsPermutation xs ys → AreApart ys ↔ AreApart xs
apart_in_order xs ys moves = (moved ys xs (IsPermutation-sym xs ys moves), moved xs ys moves)

pub in_order : (ys : List ℕ) → IsSorted nat_cmp ys → IsNonDecreasing ys
in_order ys sorted = IsNonDecreasingBy-from_sort (λ x. x) ys sorted

-- numbers in order none of which is the one before
pub apart_by_steps : (xs : List ℕ) → IsNonDecreasing xs → ((k : ℕ) → 0 < k → k < length xs → get_or xs (k - 1) 0 ≢ get_or xs k 0) → AreApart xs
apart_by_steps xs ascending steps i j d less within same =
    let to = ascending i (j - 1) 0 (omega (arith, less)) (omega (arith, within)) in
    let last = ascending (j - 1) j 0 (omega arith) within in
    let here : get_or xs i 0 ≡ get_or xs j 0 = sym (get_or_default_zero xs i d (omega (arith, less, within))) ∙ same ∙ get_or_default_zero xs j d within in
    let two : get_or xs (j - 1) 0 ≡ get_or xs j 0 = omega (arith, to, last, here) in
    steps j (omega (arith, less)) within two

-- a number that stands in two parts stands twice
pub not_twice : {X : Type 0} (f : X → List ℕ) (xs : List X) (j i n : ℕ) (d : X) → AreApart (flat_map f xs) → j < i → i < length xs
    → f (get_or xs j d) ≡ n ∷ [] → f (get_or xs i d) ≡ n ∷ [] → ⊥
not_twice f xs j i n d apart less within one two =
    let p = length (flat_map f (take j xs)) in
    let q = length (flat_map f (take i xs)) in
    let some_one : length (f (get_or xs j d)) ≡ 1 = ap length one in
    let some_two : length (f (get_or xs i d)) ≡ 1 = ap length two in
    let inside : j < length (take i xs) = omega (arith, less, within, length-take i xs) in
    let first = length-flat_map-take f (take i xs) j d inside in
    let same_take : take j (take i xs) ≡ take j xs = take-take j i xs (omega (arith, less)) in
    let same_at : get_or (take i xs) j d ≡ get_or xs j d = get_or-take i xs j d less in
    let below : p + 1 ≤ q = omega (arith, rw (same_take, same_at) at first, some_one) in
    let last : q + 1 ≤ length (flat_map f xs) = omega (arith, length-flat_map-take f xs i d within, some_two) in
    let at_p : get_or (flat_map f xs) (p + 0) 0 ≡ n = get_or-flat_map f xs j 0 d 0 (omega (arith, less, within)) (omega (arith, some_one)) ∙ ap (λ l. get_or l 0 0) one in
    let at_q : get_or (flat_map f xs) (q + 0) 0 ≡ n = get_or-flat_map f xs i 0 d 0 within (omega (arith, some_two)) ∙ ap (λ l. get_or l 0 0) two in
    apart (p + 0) (q + 0) 0 (omega (arith, below)) (omega (arith, last)) (at_p ∙ sym at_q)

-- the ends of a linedef that may be there
abbrev ends_from : Level → Option LineDef → Option Ends
ends_from level linedef = do
  there ← linedef
  ends_of_linedef level there

-- what ends at the same places have in common
same_keys : (x y : Option Ends) → IsSomeAnd x (λ a. IsSomeAnd y (AreSamePlaces a))
    → (n : ℕ) × (option_to_list (option_map ends_key x) ≡ n ∷ []) × (option_to_list (option_map ends_key y) ≡ n ∷ [])
same_keys (Some a) (Some b) same = (ends_key a, refl, ap (λ n. n ∷ []) (sym (key_of_same a b same)))
same_keys (Some a) None same = absurd same
same_keys None y same = absurd same

-- and so it is of two linedefs
same_keys_of : (level : Level) (o p : Option LineDef) → IsSomeAnd (ends_from level o) (λ a. IsSomeAnd (ends_from level p) (AreSamePlaces a))
    → (n : ℕ) × (a : LineDef) × (b : LineDef) × (o ≡ Some a) × (p ≡ Some b)
    × (keys_of_linedef level a ≡ n ∷ []) × (keys_of_linedef level b ≡ n ∷ [])
same_keys_of level (Some a) (Some b) same =
    let told = same_keys (ends_of_linedef level a) (ends_of_linedef level b) same in
    (told.0, a, b, refl, refl, told.1, told.2)
same_keys_of level (Some a) None same = absurd (let f : ⊥ = none_same (ends_of_linedef level a) same in f) where
  none_same : (x : Option Ends) → IsSomeAnd x (λ a. IsSomeAnd (ends_from level None) (AreSamePlaces a)) → ⊥
  none_same (Some x) same = same
  none_same None same = same
same_keys_of level None p same = absurd same

-- where no number stands twice no linedef lies on an earlier one
pub apart_no_twin : (level : Level) → AreApart (keys_of level) → (w : Warning) → ¬ HoldsOf level W6 w
apart_no_twin level apart (Twin i j) h =
    let linedefs = linedefs_of level in
    let both = same_keys_of level (slice_get linedefs j) (slice_get linedefs i) h.1.same in
    let a = both.1 in
    let b = both.2 in
    let at_j = get_or_from_slice_get linedefs j a a both.3 in
    let at_i = get_or_from_slice_get linedefs i b a both.4 in
    let inside = slice_get_within linedefs i b both.4 in
    not_twice (keys_of_linedef level) linedefs j i both.0 a apart h.1.before inside
    (ap (keys_of_linedef level) at_j ∙ both.5) (ap (keys_of_linedef level) at_i ∙ both.6)
apart_no_twin level apart (Game w) h = game_only None level W6 w refl h
apart_no_twin level apart w h = let other = h.0 in cc

-- the numbers of the linedefs below a number
abbrev pub keys_below : Level → ℕ → List ℕ
keys_below level i = flat_map (λ linedef. keys_of_linedef level (linedef_under level.reading linedef)) (take i level.linedefs.records)

-- a linedef more
pub keys_more : (level : Level) (i : ℕ) (linedef : LineDef) (old new : List ℕ) → slice_get level.linedefs.records i ≡ Some linedef
    → old ≡ keys_below level i → new ≡ old ++ keys_of_linedef level (linedef_under level.reading linedef) → new ≡ keys_below level (i + 1)
keys_more level i linedef old new at before adds =
    let f : LineDef → List ℕ = λ d. keys_of_linedef level (linedef_under level.reading d) in
    let records = level.linedefs.records in
    let inside = slice_get_within records i linedef at in
    let next : take (i + 1) records ≡ take i records ++ linedef ∷ [] =
    take_more records i linedef inside ∙ ap (λ d. take i records ++ d ∷ []) (get_or_from_slice_get records i linedef linedef at) in
    let same : flat_map f (take i records) ++ f linedef ≡ flat_map f (take i records ++ linedef ∷ []) = flat_map_more f [] (take i records) linedef in
    adds ∙ ap (λ l. l ++ f linedef) before ∙ same ∙ ap (flat_map f) (sym next)

-- all linedefs
pub keys_all : (level : Level) (i : ℕ) → length level.linedefs.records ≤ i → keys_below level i ≡ keys_of level
keys_all level i past =
    let f : LineDef → List ℕ = λ d. keys_of_linedef level (linedef_under level.reading d) in
    ap (flat_map f) (take_all i level.linedefs.records past) ∙ sym (flat_map-map (keys_of_linedef level) (linedef_under level.reading) level.linedefs.records)
