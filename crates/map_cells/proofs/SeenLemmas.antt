-- What cells show, by their numbers.
use Rattle.std.proofs.Common.{◌≡◌, ◌∙◌, ℕ, zero, suc, ◌+◌, ◌-◌, ◌*◌, ◌<◌, ◌≤◌, List, [], ◌∷◌, ◌++◌, length, get_or, map, replicate, set, take, Option, Some, inl, inr, refl, sym, ap, arith}
use Rattle.std.proofs.lemmas.Bool.{cases_lt}
use Rattle.std.proofs.lemmas.List.{get_or-append_right, get_or-replicate, get_or_append_left, get_or_default, get_or_past, length-append, length-map, length-replicate, map-append, set_at, take_all}
use Rattle.std.proofs.lemmas.Option.{slice_get-map, slice_get_read}
use Rattle.std.specs.List.{slice_get}
use Rattle.std.specs.Option.{option_map}
use Rattle.map_cells.specs.Seen.{AreKnown, code_in, known_in, seen_of, shown_in}

-- so many cells of one code, the first of which knows of the others
abbrev pub group : ℕ → ℕ → List ℕ
group code more = (code + more * 131072) ∷ replicate more code

-- what the first of them tells, and what each of the others does
first-code : (code more : ℕ) → code ≤ 65536 → code_in (code + more * 131072) ≡ code
first-code code more few = omega arith

first-known : (code more : ℕ) → code ≤ 65536 → known_in (code + more * 131072) ≡ more
first-known code more few = omega arith

other-code : (code : ℕ) → code ≤ 65536 → code_in code ≡ code
other-code code few = omega arith

other-known : (code : ℕ) → code ≤ 65536 → known_in code ≡ 0
other-known code few = omega arith

group-code : (code more i : ℕ) → code ≤ 65536 → i ≤ more → code_in (get_or (group code more) i 0) ≡ code
group-code code more zero few within = first-code code more few
group-code code more (suc i) few within =
    ap code_in (get_or-replicate more i code 0 (omega arith)) ∙ other-code code few

group-long : (code more : ℕ) → length (group code more) ≡ suc more
group-long code more = ap suc (length-replicate more code)

-- numbers behind which so many of a code were put, where the first of those knows of the others
pub grouped : (numbers items : List ℕ) (first len count code : ℕ) → first ≡ len → len ≡ length numbers → 0 < count
    → items ≡ take (first + count) numbers ++ replicate (first + count - len) code
    → set items first (code + (count - 1) * 131072) ≡ numbers ++ group code (count - 1)
grouped numbers items first len count code from long some are =
    let head = code + (count - 1) * 131072 in
    let all : take (first + count) numbers ≡ numbers = take_all (first + count) numbers (omega (arith, from, long)) in
    let more : first + count - len ≡ suc (count - 1) = omega (arith, from) in
    ap (λ (xs : List ℕ). set xs first head) are
    ∙ ap (λ (k : ℕ). set (take (first + count) numbers ++ replicate k code) first head) more
    ∙ ap (λ (xs : List ℕ). set (xs ++ replicate (suc (count - 1)) code) first head) all
    ∙ set_at numbers code (replicate (count - 1) code) head first (sym long ∙ sym from)

-- a number behind which one of a code was put
pub pushed : (numbers items : List ℕ) (code : ℕ) → items ≡ numbers ++ code ∷ [] → items ≡ numbers ++ group code 0
pushed numbers items code are =
    let same : code ≡ code + 0 * 131072 = omega arith in
    are ∙ ap (λ (head : ℕ). numbers ++ head ∷ []) same

map-replicate : (n code : ℕ) → map shown_in (replicate n code) ≡ replicate n (shown_in code)
map-replicate zero code = refl
map-replicate (suc n) code = ap (λ xs. shown_in code ∷ xs) (map-replicate n code)

map-group : (code more : ℕ) (shown : Option ℕ) → code ≤ 65536 → seen_of code ≡ shown → map shown_in (group code more) ≡ replicate (suc more) shown
map-group code more shown few stands =
    ap (λ (first : Option ℕ). first ∷ map shown_in (replicate more code)) (ap seen_of (first-code code more few) ∙ stands)
    ∙ ap (λ (rest : List (Option ℕ)). shown ∷ rest)
    (map-replicate more code ∙ ap (λ (s : Option ℕ). replicate more s) (ap seen_of (other-code code few) ∙ stands))

-- what a group shows, behind what was shown
pub seen-pushed : (seen : List (Option ℕ)) (numbers new : List ℕ) (count code : ℕ) (shown : Option ℕ) → map shown_in numbers ≡ seen
    → 0 < count → code ≤ 65536 → seen_of code ≡ shown → new ≡ numbers ++ group code (count - 1)
    → map shown_in new ≡ seen ++ replicate count shown
seen-pushed seen numbers new count code shown view some few stands is =
    let whole : suc (count - 1) ≡ count = omega arith in
    ap (map shown_in) is ∙ map-append shown_in numbers (group code (count - 1))
    ∙ ap (λ (xs : List (Option ℕ)). map shown_in numbers ++ xs) (map-group code (count - 1) shown few stands ∙ ap (λ (n : ℕ). replicate n shown) whole)
    ∙ ap (λ (xs : List (Option ℕ)). xs ++ replicate count shown) view

-- a group knows of its own
group-known : (code more i n : ℕ) → code ≤ 65536 → i ≤ more → n ≤ known_in (get_or (group code more) i 0) → i + n ≤ more
group-known code more zero n few within known =
    let is = first-known code more few in
    omega (arith, known, is)
group-known code more (suc i) n few within known =
    let is : known_in (get_or (replicate more code) i 0) ≡ 0 = ap known_in (get_or-replicate more i code 0 (omega arith)) ∙ other-known code few in
    omega (arith, known, is)

-- and those before it know of theirs
pub known-pushed : (numbers : List ℕ) (code more : ℕ) → code ≤ 65536 → AreKnown numbers → AreKnown (numbers ++ group code more)
known-pushed numbers code more few known = λ k n there within.
    let tail = group code more in
    let long : length (numbers ++ tail) ≡ length numbers + suc more =
    length-append numbers tail ∙ ap (λ (m : ℕ). length numbers + m) (group-long code more) in
    elim (cases_lt k (length numbers)) [
      | inl before ↦
          let at_k = get_or_append_left numbers tail 0 k before in
          let old = known k n before (rw at_k at within) in
          let beyond = old.0 in
          let at_n = get_or_append_left numbers tail 0 (k + n) beyond in
          (omega (arith, long, beyond), ap code_in at_n ∙ old.1 ∙ sym (ap code_in at_k))
      | inr past ↦
          let at_k = get_or-append_right numbers tail (length numbers) k 0 refl past in
          let place : k - length numbers ≤ more = omega (arith, long, there) in
          let reach = group-known code more (k - length numbers) n few place (rw at_k at within) in
          let at_n = get_or-append_right numbers tail (length numbers) (k + n) 0 refl (omega (arith, past)) in
          let there_n : k + n - length numbers ≤ more = omega (arith, reach, past) in (
            omega (arith, long, reach, past),
            ap code_in at_n ∙ group-code code more (k + n - length numbers) few there_n
                ∙ sym (ap code_in at_k ∙ group-code code more (k - length numbers) few place),
          )
    ]

-- no code is above a bound
pub bound-pushed : (numbers : List ℕ) (code more old new : ℕ) → code ≤ 65536 → ((k : ℕ) → code_in (get_or numbers k 0) ≤ old)
    → old ≤ new → code ≤ new → (k : ℕ) → code_in (get_or (numbers ++ group code more) k 0) ≤ new
bound-pushed numbers code more old new few bound from to k =
    let tail = group code more in
    elim (cases_lt k (length numbers)) [
      | inl before ↦
          let at = ap code_in (get_or_append_left numbers tail 0 k before) in
          let most = bound k in
          omega (arith, at, most, from)
      | inr past ↦
          let at = ap code_in (get_or-append_right numbers tail (length numbers) k 0 refl past) in
          elim (cases_lt (k - length numbers) (suc more)) [
            | inl there ↦
                let is = group-code code more (k - length numbers) few (omega (arith, there)) in
                omega (arith, at, is, to)
            | inr behind ↦
                let none = ap code_in (get_or_past tail (k - length numbers) 0 (omega (arith, behind, group-long code more))) in
                omega (arith, at, none)
          ]
    ]

-- what stands at a place, by its number
pub seen-at : (seen : List (Option ℕ)) (numbers : List ℕ) (i a : ℕ) → map shown_in numbers ≡ seen → i < length seen → a ≡ get_or numbers i a
    → slice_get seen i ≡ Some (shown_in a)
seen-at seen numbers i a view within read =
    let long : length numbers ≡ length seen = sym (length-map numbers shown_in) ∙ ap length view in
    let there : slice_get numbers i ≡ Some a = slice_get_read numbers (length numbers) i a refl (omega (arith, within, long)) read in
    ap (λ xs. slice_get xs i) (sym view) ∙ slice_get-map shown_in numbers i ∙ ap (option_map shown_in) there

-- the same codes stand for the same
pub seen-same : (seen : List (Option ℕ)) (numbers : List ℕ) (i k a b : ℕ) → map shown_in numbers ≡ seen → i < length seen → k < length seen
    → a ≡ get_or numbers i a → b ≡ get_or numbers k b → code_in a ≡ code_in b → slice_get seen i ≡ slice_get seen k
seen-same seen numbers i k a b view here there at_i at_k same =
    seen-at seen numbers i a view here at_i ∙ ap (λ c. Some (seen_of c)) same ∙ sym (seen-at seen numbers k b view there at_k)

-- a cell shows the same as one that knows of it
pub seen-known : (seen : List (Option ℕ)) (numbers : List ℕ) (place a k : ℕ) → map shown_in numbers ≡ seen → AreKnown numbers
    → place < length seen → a ≡ get_or numbers place a → place ≤ k → k < place + known_in a + 1
    → (k < length seen) × (slice_get seen k ≡ slice_get seen place)
seen-known seen numbers place a k view known there read from below =
    let long : length numbers ≡ length seen = sym (length-map numbers shown_in) ∙ ap length view in
    let here : place < length numbers = omega (arith, there, long) in
    let at : a ≡ get_or numbers place 0 = read ∙ get_or_default numbers place a 0 here in
    let reach : k - place ≤ known_in a = omega (arith, from, below) in
    let within = rw at at reach in
    let place_k : place + (k - place) ≡ k = omega (arith, from) in
    let is = rw place_k at (known place (k - place) here within) in
    let beyond = is.0 in
    let inside : k < length seen = omega (arith, beyond, long) in
    let read_k : get_or numbers k 0 ≡ get_or numbers k (get_or numbers k 0) = get_or_default numbers k 0 (get_or numbers k 0) beyond in
    (inside, seen-same seen numbers k place (get_or numbers k 0) a view inside there read_k read (is.1 ∙ ap code_in (sym at)))

-- a sector's code is above its number
code-above : (code s : ℕ) → seen_of code ≡ Some s → code ≡ suc s
code-above zero s e = cc
code-above (suc n) s e = cc

coded : (numbers : List ℕ) (p s : ℕ) → slice_get (map shown_in numbers) p ≡ Some (Some s) → code_in (get_or numbers p 0) ≡ suc s
coded [] p s e = cc
coded (c ∷ numbers) zero s e =
    let shown : shown_in c ≡ Some s = cc in
    code-above (code_in c) s shown
coded (c ∷ numbers) (suc p) s e = coded numbers p s e

pub seen-listed : (seen : List (Option ℕ)) (numbers : List ℕ) (bound : ℕ) → map shown_in numbers ≡ seen → ((k : ℕ) → code_in (get_or numbers k 0) ≤ bound)
    → (p s : ℕ) → slice_get seen p ≡ Some (Some s) → s < bound
seen-listed seen numbers bound view most p s e =
    let code = coded numbers p s (ap (λ xs. slice_get xs p) view ∙ e) in
    let h = most p in
    omega (arith, code, h)
