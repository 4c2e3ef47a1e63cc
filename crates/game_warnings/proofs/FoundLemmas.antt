-- A name has one lump that is found.
use Rattle.std.proofs.Common.{◌≡◌, ◌≢◌, ◌↔◌, ◌⊎◌, inl, inr, ℕ, ◌<◌, ◌≤◌, Bool, true, false, List, [], length, Some, refl, sym, subst, ◌∙◌, arith}
use Rattle.std.specs.Prelude.{Err, IsErrOf, IsTrue, Result}
use Rattle.std.specs.List.{slice_get}
use Rattle.std.proofs.lemmas.List.{length-map}
use Rattle.std.proofs.lemmas.Option.{slice_get_within}
use Rattle.wad_dir.specs.Entries.{joined, listed_name, names}
use Rattle.wad_dir.specs.Slice.{IsLump}
use Rattle.wad_dir.specs.Wad.{Wad}
use Rattle.wad_dir.specs.Winner.{Wins}
use Rattle.wad_dir.specs.declared.lump.LumpFault.{LumpFault}
use Rattle.wad_dir.specs.declared.lump.LumpFault.TheVariants.{NoSuch, Outside}
use Rattle.wad_dir.proofs.WinnerLemmas.{Wins-one}
use Rattle.wad_dir.proofs.LumpLemmas.{IsLump-one}
use Rattle.game_warnings.specs.Found.{IsFound, IsFoundOrEmpty}

pub found_one : (files : List Wad) (name a b : List ℕ) → IsFound files name a → IsFound files name b → a ≡ b
found_one files name a b p q =
    let same : p.g ≡ q.g = Wins-one (names files) name p.g q.g p.wins q.wins in
    IsLump-one files q.g a b (subst (λ g. IsLump files g a) same p.holds) q.holds

pub found_or_empty_one : (files : List Wad) (name a b : List ℕ) → IsFoundOrEmpty files name a → IsFoundOrEmpty files name b → a ≡ b
found_or_empty_one files name a b (inl p) (inl q) = found_one files name a b p q
found_or_empty_one files name a b (inl p) (inr q) = absurd (q.0 a p)
found_or_empty_one files name a b (inr p) (inl q) = absurd (p.0 b q)
found_or_empty_one files name a b (inr p) (inr q) = p.1 ∙ sym q.1

-- no lump but that of the winner is found
pub unfound : (files : List Wad) (name : List ℕ) → ((g : ℕ) → slice_get (names files) g ≢ Some name) → (lump : List ℕ) → ¬ IsFound files name lump
unfound files name none lump found = none found.g found.wins.named

no_lump : (files : List Wad) (name : List ℕ) (g : ℕ) → Wins (names files) name g → ((lump : List ℕ) → ¬ IsLump files g lump) → (lump : List ℕ) → ¬ IsFound files name lump
no_lump files name g wins none lump found =
    let same : found.g ≡ g = Wins-one (names files) name found.g g found.wins wins in
    none lump (subst (λ h. IsLump files h lump) same found.holds)

pub refused : {T : Type 0} (files : List Wad) (name : List ℕ) (g : ℕ) (got : Result T LumpFault) → Wins (names files) name g
    → IsErrOf got NoSuch ↔ (length (joined files) ≤ g)
    → IsErrOf got Outside ↔ ((g < length (joined files)) × ((lump : List ℕ) → ¬ IsLump files g lump))
    → (fault : LumpFault) → got ≡ Err fault → (lump : List ℕ) → ¬ IsFound files name lump
refused files name g got wins no_such outside NoSuch is lump found =
    let past = no_such.0 (rw is refl) in
    omega (arith, past, slice_get_within (names files) g name wins.named, length-map (joined files) listed_name)
refused files name g got wins no_such outside Outside is lump found =
    no_lump files name g wins (outside.0 (rw is refl)).1 lump found

pub lump_refused : {T : Type 0} (files : List Wad) (g : ℕ) (got : Result T LumpFault)
    → IsErrOf got NoSuch ↔ (length (joined files) ≤ g)
    → IsErrOf got Outside ↔ ((g < length (joined files)) × ((lump : List ℕ) → ¬ IsLump files g lump))
    → (fault : LumpFault) → got ≡ Err fault → (lump : List ℕ) → ¬ IsLump files g lump
lump_refused files g got no_such outside NoSuch is lump holds =
    let past = no_such.0 (rw is refl) in
    omega (arith, past, slice_get_within (joined files) g holds.listed holds.numbered)
lump_refused files g got no_such outside Outside is lump holds = (outside.0 (rw is refl)).1 lump holds

-- the lump of a name's winner is the one that is found
pub found_by_winner : (files : List Wad) (name : List ℕ) (g : ℕ) (b : Bool) → Wins (names files) name g → IsTrue b ↔ ((lump : List ℕ) × IsLump files g lump)
    → IsTrue b ↔ ((lump : List ℕ) × IsFound files name lump)
found_by_winner files name g b wins is = (
  λ t. let one = is.0 t in (one.0, record { g = g; wins = wins; holds = one.1 }),
  λ found.
      let same : found.1.g ≡ g = Wins-one (names files) name found.1.g g found.1.wins wins in
      is.1 (found.0, subst (λ h. IsLump files h found.0) same found.1.holds),
)

pub found_by_none : (files : List Wad) (name : List ℕ) → ((g : ℕ) → slice_get (names files) g ≢ Some name) → IsTrue false ↔ ((lump : List ℕ) × IsFound files name lump)
found_by_none files name none = (λ no. absurd (let gone = no in cc), λ found. absurd (none found.1.g found.1.wins.named))
