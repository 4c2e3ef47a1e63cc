-- Steps of opening a level.
use Rattle.std.proofs.Common.{◌≡◌, ℕ, ◌+◌, ◌-◌, ◌<◌, ◌≤◌, ◌≢◌, ◌↔◌, List, [], length, map, get_or, set, Err, Option, Some, refl, sym, ap, ◌∙◌, arith, below_more, Bor}
use Rattle.std.specs.Prelude.{IsErrOf, unwrap_or}
use Rattle.std.specs.Option.{option_map}
use Rattle.std.proofs.lemmas.Option.{slice_get-map, slice_get-get_or}
use Rattle.std.specs.List.{slice_get}
use Rattle.std.proofs.lemmas.List.{map-set, length-map, length-set, get_or-set_other, get_or-set_same}
use Rattle.wad_dir.specs.Wad.{Wad}
use Rattle.wad_dir.specs.Entries.{joined, names, listed_name}
use Rattle.wad_dir.specs.Slice.{IsLump}
use Rattle.wad_dir.specs.declared.lump.LumpFault.{LumpFault}
use Rattle.wad_dir.specs.declared.lump.LumpFault.TheVariants.{NoSuch, Outside}
use Rattle.map_level.specs.Opening.{AreThereBelow}

-- the lumps found so far are those before the next
pub found_below : (files : List Wad) (label i : ℕ) (lumps : List (List ℕ))
    → ((j : ℕ) → j < i → IsLump files (label + (j + 1)) (get_or lumps j []))
    → AreThereBelow files label (i + 1)
found_below files label i lumps found = λ j one below.
    let again : j - 1 + 1 ≡ j = omega arith in
    (get_or lumps (j - 1) [], rw again at (found (j - 1) (omega arith)))

-- a refused lump of a listed entry is outside its file
pub refused_outside : (files : List Wad) (g : ℕ) (fault : LumpFault)
    → (IsErrOf {T = Bor (List ℕ)} (Err fault) NoSuch ↔ (length (joined files) ≤ g))
    → (IsErrOf {T = Bor (List ℕ)} (Err fault) Outside ↔
    ((g < length (joined files)) × ((lump : List ℕ) → ¬ IsLump files g lump)))
    → g < length (joined files) → (lump : List ℕ) → ¬ IsLump files g lump
refused_outside files g NoSuch no_such outside within = absurd (omega (arith, no_such.0 refl))
refused_outside files g Outside no_such outside within = (outside.0 refl).1

-- one lump more was found
pub found_more : (files : List Wad) (label i : ℕ) (bytes : List (Bor (List ℕ)))
    (lump : Bor (List ℕ))
    → i < length bytes
    → ((j : ℕ) → j < i → IsLump files (label + (j + 1)) (get_or (map (λ b. b.now) bytes) j []))
    → IsLump files (label + (i + 1)) lump.now
    → (j : ℕ) → j < i + 1
    → IsLump files (label + (j + 1)) (get_or (map (λ b. b.now) (set bytes i lump)) j [])
found_more files label i bytes lump within found here =
    let lumps : List (List ℕ) = map (λ b. b.now) bytes in
    let long : i < length lumps = rw (length-map bytes (λ b. b.now)) within in
    let moved : map (λ b. b.now) (set bytes i lump) ≡ set lumps i lump.now =
    map-set (λ b. b.now) bytes i lump in
    rw moved
    (below_more (λ j. IsLump files (label + (j + 1)) (get_or (set lumps i lump.now) j [])) i
    (λ j below. let other : j ≢ i = omega arith in
    rw (get_or-set_other lumps i j lump.now [] other) (found j below))
    (rw (get_or-set_same lumps i lump.now [] long) here))

-- one name more was found
pub named_more : (files : List Wad) (label k : ℕ) (found : List (List ℕ)) (name : List ℕ)
    (o : Option (List ℕ))
    → length found ≡ 11 → k < 11
    → label + 10 < length (joined files)
    → o ≡ option_map listed_name (slice_get (joined files) (label + k))
    → ((j : ℕ) → j < k → slice_get found j ≡ slice_get (names files) (label + j))
    → (j : ℕ) → j < k + 1
    → slice_get (set found k (unwrap_or o name)) j ≡ slice_get (names files) (label + j)
named_more files label k found name o eleven within listed is before =
    let all : List (List ℕ) = names files in
    let g : ℕ = label + k in
    let listed' : g < length all = rw (length-map (joined files) listed_name) (omega arith) in
    let there : slice_get all g ≡ Some (get_or all g []) = slice_get-get_or all g [] listed' in
    let given : o ≡ Some (get_or all g []) =
    is ∙ sym (slice_get-map listed_name (joined files) g) ∙ there in
    let here : k < length (set found k (get_or all g [])) =
    rw (length-set found k (get_or all g []), eleven) within in
    rw given
    (below_more (λ j. slice_get (set found k (get_or all g [])) j ≡ slice_get all (label + j)) k
    (λ j below.
    let other : j ≢ k = omega arith in
    let long : j < length found = omega arith in
    let still : j < length (set found k (get_or all g [])) =
    rw (length-set found k (get_or all g [])) long in
    slice_get-get_or (set found k (get_or all g [])) j [] still
    ∙ ap Some (get_or-set_other found k j (get_or all g []) [] other)
    ∙ sym (slice_get-get_or found j [] long)
    ∙ before j below)
    (slice_get-get_or (set found k (get_or all g [])) k [] here
    ∙ ap Some (get_or-set_same found k (get_or all g []) [] (omega arith))
    ∙ sym there))
