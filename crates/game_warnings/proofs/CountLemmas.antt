-- How a count comes to be, record by record.
use Rattle.std.proofs.Common.{◌≡◌, ℕ, ◌+◌, ◌≤◌, Bool, true, false, List, [], ◌∷◌, ◌++◌, length, get_or, take, Some, refl, sym, ap, ◌∙◌, arith}
use Rattle.std.specs.Prelude.{count_by, if◌then◌else◌}
use Rattle.std.specs.List.{list_any, slice_get}
use Rattle.std.specs.Option.{option_map}
use Rattle.std.proofs.lemmas.List.{length-map, take_all, take_more}
use Rattle.std.proofs.lemmas.List.Folds.{list_any_at, list_any_more}
use Rattle.std.proofs.lemmas.List.Sums.{count_by_more_yes, count_by_more_no}
use Rattle.std.proofs.lemmas.Option.{get_or_from_slice_get, slice_get_within, slice_get-map}
use Rattle.le_rec.specs.declared.records.LineDef.{LineDef}
use Rattle.map_level.specs.Level.{Level}
use Rattle.map_level.specs.Links.{linedefs_of}
use Rattle.map_level.specs.Reading.{linedef_under}

count_with : {X : Type 0} (p : X → Bool) (xs : List X) (i : ℕ) (x : X) (b : Bool) → slice_get xs i ≡ Some x → b ≡ p x
    → count_by p (take (i + 1) xs) ≡ count_by p (take i xs) + (if b then 1 else 0)
count_with p xs i x true at is =
    let here = get_or_from_slice_get xs i x x at in
    count_by_more_yes p xs i x (slice_get_within xs i x at) (ap p here ∙ sym is)
count_with p xs i x false at is =
    let here = get_or_from_slice_get xs i x x at in
    let same = count_by_more_no p xs i x (slice_get_within xs i x at) (ap p here ∙ sym is) in
    omega (arith, same)

-- one record more
pub count_more : {X : Type 0} (p : X → Bool) (xs : List X) (i : ℕ) (x : X) (b : Bool) (n m : ℕ) → slice_get xs i ≡ Some x → b ≡ p x
    → n ≡ count_by p (take i xs) → m ≡ n + (if b then 1 else 0) → m ≡ count_by p (take (i + 1) xs)
count_more p xs i x b n m at is before after =
    after ∙ ap (λ k. k + (if b then 1 else 0)) before ∙ sym (count_with p xs i x b at is)

-- all records
pub count_all : {X : Type 0} (p : X → Bool) (xs : List X) (i n : ℕ) → length xs ≤ i → n ≡ count_by p (take i xs) → n ≡ count_by p xs
count_all p xs i n past is = is ∙ ap (count_by p) (take_all i xs past)

-- a count of so many records is at most so many
pub count_few : (n m i : ℕ) (b : Bool) → m ≡ n + (if b then 1 else 0) → n ≤ i → m ≤ i + 1
count_few n m i true is few = omega (arith, is)
count_few n m i false is few = omega (arith, is)

-- a linedef under the level's reading
pub linedef_here : (level : Level) (i : ℕ) (linedef : LineDef) → slice_get level.linedefs.records i ≡ Some linedef
    → slice_get (linedefs_of level) i ≡ Some (linedef_under level.reading linedef)
linedef_here level i linedef at =
    slice_get-map (linedef_under level.reading) level.linedefs.records i ∙ ap (option_map (linedef_under level.reading)) at

pub linedefs_past : (level : Level) (i : ℕ) → length level.linedefs.records ≤ i → length (linedefs_of level) ≤ i
linedefs_past level i past = rw (length-map level.linedefs.records (linedef_under level.reading)) past

-- whether some record passes a test, so far and in the end
pub any_here : {X : Type 0} (p : X → Bool) (xs : List X) (i : ℕ) (x : X) → slice_get xs i ≡ Some x → p x ≡ true → list_any p xs ≡ true
any_here p xs i x at is =
    list_any_at p xs i x (slice_get_within xs i x at) (ap p (get_or_from_slice_get xs i x x at) ∙ is)

pub any_more : {X : Type 0} (p : X → Bool) (xs : List X) (i : ℕ) (x : X) → slice_get xs i ≡ Some x → p x ≡ false → list_any p (take i xs) ≡ false
    → list_any p (take (i + 1) xs) ≡ false
any_more p xs i x at is before =
    let here : p (get_or xs i x) ≡ false = ap p (get_or_from_slice_get xs i x x at) ∙ is in
    list_any_more p xs i x (slice_get_within xs i x at) ∙ rw (before, here) refl

-- one record more at the end of those so far
pub take_with : {X : Type 0} (xs : List X) (i : ℕ) (x : X) → slice_get xs i ≡ Some x → take (i + 1) xs ≡ take i xs ++ x ∷ []
take_with xs i x at = take_more xs i x (slice_get_within xs i x at) ∙ ap (λ y. take i xs ++ y ∷ []) (get_or_from_slice_get xs i x x at)
