-- Facts about what lumps and files list.
use Rattle.std.proofs.Common.{◌≡◌, ◌↔◌, ℕ, zero, suc, ◌<◌, ◌≤◌, List, length, Option, Some, None, refl, sym, ap, ◌∙◌, subst, arith}
use Rattle.std.specs.Prelude.{Bool, true, false, not, Err, IsErrOf, IsTrue, Result}
use Rattle.std.specs.Option.{option_map}
use Rattle.std.specs.List.{slice_get}
use Rattle.std.proofs.lemmas.Int.{ints}
use Rattle.std.proofs.lemmas.List.{length-map}
use Rattle.std.proofs.lemmas.Option.{none-some, same_Some, slice_get-map, slice_get_within}
use Rattle.le_rec.specs.Name.{query_of}
use Rattle.le_rec.specs.Number.{name_at}
use Rattle.wad_dir.specs.Entries.{joined, listed_name, names}
use Rattle.wad_dir.specs.Slice.{IsLump}
use Rattle.wad_dir.specs.Wad.{Wad}
use Rattle.wad_dir.specs.Winner.{Wins}
use Rattle.wad_dir.specs.declared.lump.LumpFault.{LumpFault}
use Rattle.wad_dir.specs.declared.lump.LumpFault.TheVariants.{NoSuch, Outside}
use Rattle.wad_dir.proofs.WinnerLemmas.{Wins-one}
use Rattle.wad_dir.proofs.LumpLemmas.{IsLump-one}
use Rattle.map_warnings.specs.Listed.{HasEntry, HasFewOffsets, HasOffset, IsFound, IsListedUnder, IsNameAt, ListsTexture}
use Rattle.map_warnings.specs.NameNumber.{AddsNames}
use Rattle.map_warnings.proofs.NumberLemmas.{adds_as, adds_none, Below}

-- one name at most stands at an offset
pub name_one : (lump : List ℕ) (k : ℕ) (a b : List ℕ) → IsNameAt lump k a → IsNameAt lump k b → a ≡ b
name_one lump k a b p q =
    let same : p.at ≡ q.at = omega (arith, ints, p.placed, q.placed) in
    p.named ∙ ap (λ at. query_of (name_at lump at)) same ∙ sym q.named

pub adds_name : (lump : List ℕ) (k : ℕ) (name before after : List ℕ) → IsNameAt lump k name
    → AddsNames (λ other. other ≡ name) before after → AddsNames (IsNameAt lump k) before after
adds_name lump k name before after here adds =
    adds_as (λ other. other ≡ name) (IsNameAt lump k) before after adds (λ other. (
      λ same. subst (IsNameAt lump k) (sym same) here,
      λ h. name_one lump k other name h here,
    ))

-- the names at all offsets are those of the textures
pub all_listed : (lump : List ℕ) (n : ℕ) → ((k : ℕ) → (k < n) ↔ HasOffset lump k) → (name : List ℕ)
    → Below (IsNameAt lump) n name ↔ ListsTexture lump name
all_listed lump n each name = (
  λ h. record { k = h.0; offset = (each h.0).0 h.1; here = h.2 },
  λ h. (h.k, (each h.k).1 h.offset, h.here),
)

-- a lump has no more offsets than so many
pub few_offsets : (lump : List ℕ) (count n : ℕ) → ((k : ℕ) → (k < count) ↔ HasOffset lump k) → HasFewOffsets lump n → count ≤ n
few_offsets lump zero n each few = omega arith
few_offsets lump (suc count) n each few = omega (arith, few count ((each count).0 (omega arith)))

-- a name has one lump
pub found_one : (files : List Wad) (name a b : List ℕ) → IsFound files name a → IsFound files name b → a ≡ b
found_one files name a b p q =
    let same : p.g ≡ q.g = Wins-one (names files) name p.g q.g p.wins q.wins in
    IsLump-one files q.g a b (subst (λ g. IsLump files g a) same p.holds) q.holds

pub adds_found : (files : List Wad) (name lump before after : List ℕ) → IsFound files name lump
    → AddsNames (ListsTexture lump) before after → AddsNames (IsListedUnder files name) before after
adds_found files name lump before after found adds =
    adds_as (ListsTexture lump) (IsListedUnder files name) before after adds (λ texture. (
      λ lists. (lump, found, lists),
      λ h. subst (λ other. ListsTexture other texture) (found_one files name h.0 lump h.1 found) h.2,
    ))

pub adds_unfound : (files : List Wad) (name numbers : List ℕ) → ((lump : List ℕ) → ¬ IsFound files name lump)
    → AddsNames (IsListedUnder files name) numbers numbers
adds_unfound files name numbers none = adds_none (IsListedUnder files name) numbers (λ texture h. none h.0 h.1)

-- no lump but that of the winner is found
pub no_winner : (files : List Wad) (name : List ℕ) → ((g : ℕ) → ¬ (slice_get (names files) g ≡ Some name)) → (lump : List ℕ)
    → ¬ IsFound files name lump
no_winner files name none lump found = none found.g found.wins.named

pub no_lump : (files : List Wad) (name : List ℕ) (g : ℕ) → Wins (names files) name g → ((lump : List ℕ) → ¬ IsLump files g lump)
    → (lump : List ℕ) → ¬ IsFound files name lump
no_lump files name g wins none lump found =
    let same : found.g ≡ g = Wins-one (names files) name found.g g found.wins wins in
    none lump (subst (λ h. IsLump files h lump) same found.holds)

pub no_lump_of : {T : Type 0} (files : List Wad) (name : List ℕ) (g : ℕ) (got : Result T LumpFault) → Wins (names files) name g
    → IsErrOf got NoSuch ↔ (length (joined files) ≤ g)
    → IsErrOf got Outside ↔ ((g < length (joined files)) × ((lump : List ℕ) → ¬ IsLump files g lump))
    → (fault : LumpFault) → got ≡ Err fault → (lump : List ℕ) → ¬ IsFound files name lump
no_lump_of files name g got wins no_such outside NoSuch is lump found =
    let past = no_such.0 (rw is refl) in
    omega (arith, past, slice_get_within (names files) g name wins.named, length-map (joined files) listed_name)
no_lump_of files name g got wins no_such outside Outside is lump found =
    no_lump files name g wins (outside.0 (rw is refl)).1 lump found

-- the name of an entry
abbrev pub EntryAt : List Wad → ℕ → List ℕ → Type 0
EntryAt files g name = slice_get (names files) g ≡ Some name

entry_named : (files : List Wad) (g : ℕ) (told : Option (List ℕ)) → told ≡ option_map listed_name (slice_get (joined files) g)
    → slice_get (names files) g ≡ told
entry_named files g told is = slice_get-map listed_name (joined files) g ∙ sym is

pub adds_entry : (files : List Wad) (g : ℕ) (told : Option (List ℕ)) (name before after : List ℕ)
    → told ≡ option_map listed_name (slice_get (joined files) g) → told ≡ Some name
    → AddsNames (λ other. other ≡ name) before after → AddsNames (EntryAt files g) before after
adds_entry files g told name before after is some adds =
    let here = entry_named files g told is ∙ some in
    adds_as (λ other. other ≡ name) (EntryAt files g) before after adds (λ other. (
      λ same. here ∙ ap Some (sym same),
      λ h. same_Some other name (sym h ∙ here),
    ))

pub adds_no_entry : (files : List Wad) (g : ℕ) (told : Option (List ℕ)) (numbers : List ℕ)
    → told ≡ option_map listed_name (slice_get (joined files) g) → told ≡ None → AddsNames (EntryAt files g) numbers numbers
adds_no_entry files g told numbers is none =
    adds_none (EntryAt files g) numbers (λ name h. none-some name (sym (entry_named files g told is ∙ none) ∙ h))

-- the names of all entries
pub all_entries : (files : List Wad) (n : ℕ) → ((g : ℕ) (name : List ℕ) → EntryAt files g name → g < n) → (name : List ℕ)
    → Below (EntryAt files) n name ↔ HasEntry files name
all_entries files n within name = (λ h. (h.0, h.2), λ h. (h.0, within h.0 name h.1, h.1))

-- what isn't told isn't so
pub not_told : (told : Bool) (P : Type 0) → IsTrue told ↔ P → IsTrue (not told) ↔ (¬ P)
not_told true P tells = (λ t. absurd (let no = t in cc), λ none. absurd (none (tells.0 refl)))
not_told false P tells = (λ t there. absurd (let yes = tells.1 there in cc), λ none. refl)
