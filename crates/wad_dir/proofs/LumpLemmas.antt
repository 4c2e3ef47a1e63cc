-- The lump of an entry of the one list.
use Rattle.std.proofs.Common.{◌≡◌, ℕ, ◌<◌, List, [], ◌∷◌, length, Some, refl, sym, ◌∙◌, subst, arith}
use Rattle.std.proofs.lemmas.Int.{ints}
use Rattle.le_rec.specs.declared.records.Entry.{Entry}
use Rattle.wad_dir.specs.Standing.{StandsAt}
use Rattle.wad_dir.proofs.StandingLemmas.{StandsAt-one}
use Rattle.std.specs.List.{slice_get}
use Rattle.std.proofs.lemmas.Option.{same_Some}
use Rattle.wad_dir.specs.Wad.{Wad}
use Rattle.wad_dir.specs.Entries.{Listed, joined}
use Rattle.wad_dir.specs.Slice.{IsSlice, IsLump}

module _ (files : List Wad) (g : ℕ) (listed : Listed)
    (at : slice_get (joined files) g ≡ Some listed) where
  pub lump_is : (lump : List ℕ) → IsSlice listed.bytes listed.entry lump → IsLump files g lump
  lump_is lump slice = record { listed = listed; numbered = at; slice = slice }

  pub no_lump : ((lump : List ℕ) → IsSlice listed.bytes listed.entry lump → ⊥) → (lump : List ℕ)
      → IsLump files g lump → ⊥
  no_lump none lump h =
      let same : h.listed ≡ listed = same_Some h.listed listed (sym h.numbered ∙ at) in
      none lump (subst (λ (l : Listed). IsSlice l.bytes l.entry lump) same h.slice)

same_slice : (bytes : List ℕ) (entry : Entry) (lump other : List ℕ) → length lump ≡ length other
    → (0 < length lump → StandsAt bytes entry.filepos lump)
    → (0 < length other → StandsAt bytes entry.filepos other) → lump ≡ other
same_slice bytes entry [] [] same s t = refl
same_slice bytes entry [] (o ∷ other) same s t = absurd (omega arith)
same_slice bytes entry (b ∷ lump) other same s t =
    StandsAt-one bytes (b ∷ lump) other entry.filepos (s (omega arith)) (t (omega arith)) same

-- an entry has one lump
pub IsSlice-one : (bytes : List ℕ) (entry : Entry) (lump other : List ℕ) → IsSlice bytes entry lump
    → IsSlice bytes entry other → lump ≡ other
IsSlice-one bytes entry lump other s t =
    same_slice bytes entry lump other (omega (arith, ints, s.sized, t.sized)) s.stands t.stands

-- and so has one of the files' one list
pub IsLump-one : (files : List Wad) (g : ℕ) (a b : List ℕ) → IsLump files g a → IsLump files g b
    → a ≡ b
IsLump-one files g a b p q =
    let same : p.listed ≡ q.listed =
    same_Some p.listed q.listed (sym p.numbered ∙ q.numbered) in
    let slice = subst (λ (listed : Listed). IsSlice listed.bytes listed.entry a) same p.slice in
    IsSlice-one q.listed.bytes q.listed.entry a b slice q.slice
