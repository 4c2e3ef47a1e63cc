-- A file's lumps taken up one after another, and what the file that they make reads as.
use Rattle.std.proofs.Common.{◌≡◌, ◌≢◌, ◌↔◌, inl, inr, ℕ, ◌+◌, ◌<◌, ◌≤◌, ◌^◌, List, [], ◌∷◌, ◌++◌, length, length-append, map, take, get_or, Some, Result, Ok, Err, IfErr, IsErrOf, refl, sym, ap, ◌∙◌, subst, arith}
use Rattle.std.specs.List.{All, AllZip, slice_get}
use Rattle.std.specs.Option.{option_map}
use Rattle.std.proofs.lemmas.List.{take_more, take_all, map_push, length-map}
use Rattle.std.proofs.lemmas.List.Elements.{All-head}
use Rattle.std.proofs.lemmas.Option.{slice_get_within, slice_get-get_or, get_or_from_slice_get, slice_get-map}
use Rattle.le_rec.specs.Name.{name_of}
use Rattle.le_rec.specs.declared.records.Entry.{Entry}
use Rattle.wad_dir.specs.Entries.{joined, names, listed_name}
use Rattle.wad_dir.specs.Laws.{ReadsAsPacked}
use Rattle.wad_dir.specs.Packing.{NamedLump, packed}
use Rattle.wad_dir.specs.Slice.{IsLump, IsSlice}
use Rattle.wad_dir.specs.Wad.{Wad, IsRead}
use Rattle.wad_dir.specs.declared.lump.LumpFault.{LumpFault}
use Rattle.wad_dir.specs.declared.lump.LumpFault.TheVariants.{NoSuch, Outside}
use Rattle.wad_dir.specs.declared.packer.PackFault.{PackFault}
use Rattle.wad_dir.specs.declared.packer.PackFault.TheVariants as pack
use Rattle.examples.proofs.ListLemmas.{slice_get-last}
use Rattle.examples.specs.LumpExchange.{AreExchanged, IsExchanged, IsLumpWith, LacksLump, RefusesExchange, StopsExchange}
use Rattle.examples.specs.declared.lump_exchange.ExchangeFault.{ExchangeFault}
use Rattle.examples.specs.declared.lump_exchange.ExchangeFault.TheVariants as exchange

-- why another lump isn't taken up
pub lacks_lump : {T : Type 0} (files : List Wad) (g i : ℕ) (result : Result T LumpFault) → g < length (joined files)
    → i < length (joined files) → i ≢ g
    → (IsErrOf result NoSuch ↔ (length (joined files) ≤ i))
    → (IsErrOf result Outside ↔ ((i < length (joined files)) × ((lump : List ℕ) → ¬ IsLump files i lump)))
    → IfErr result (LacksLump files g)
lacks_lump files g i (Ok x) there within other no_such outside = tt
lacks_lump files g i (Err NoSuch) there within other no_such outside = absurd (omega (arith, within, no_such.0 refl))
lacks_lump files g i (Err Outside) there within other no_such outside = (there, i, within, other, (outside.0 refl).1)

-- the first lumps, under their names
pub record ExchangedSoFar (files : List Wad) (g : ℕ) (bytes : List ℕ) (lumps : List NamedLump) (count : ℕ) : Type 0 where
  pub named : map (λ (l : NamedLump). l.name) lumps ≡ take count (names files)
  pub long : length lumps ≡ count
  pub each : (i : ℕ) (lump : NamedLump) → slice_get lumps i ≡ Some lump → IsLumpWith files g bytes i lump.bytes

pub ExchangedSoFar-more : (files : List Wad) (g : ℕ) (bytes : List ℕ) (lumps : List NamedLump) (count : ℕ) (lump : NamedLump) → ExchangedSoFar files g bytes lumps count
    → count < length (joined files) → option_map listed_name (slice_get (joined files) count) ≡ Some lump.name → IsLumpWith files g bytes count lump.bytes
    → ExchangedSoFar files g bytes (lumps ++ lump ∷ []) (count + 1)
ExchangedSoFar-more files g bytes lumps count lump so_far within name here =
    let at : slice_get (names files) count ≡ Some lump.name = slice_get-map listed_name (joined files) count ∙ name in
    record {
      named =
          map_push (λ (l : NamedLump). l.name) lumps lump
          ∙ ap (λ ns. ns ++ lump.name ∷ []) so_far.named
          ∙ ap (λ n. take count (names files) ++ n ∷ []) (sym (get_or_from_slice_get (names files) count lump.name lump.name at))
          ∙ sym (take_more (names files) count lump.name (slice_get_within (names files) count lump.name at));
      long = length-append lumps (lump ∷ []) ∙ ap (λ n. n + 1) so_far.long;
      each = λ i other e. elim (slice_get-last lumps other lump i e) [
        | inl before ↦ so_far.each i other before
        | inr last ↦
            let same : i ≡ count = last.0 ∙ so_far.long in
            subst (λ (l : NamedLump). IsLumpWith files g bytes i l.bytes) (sym last.1) (subst (λ k. IsLumpWith files g bytes k lump.bytes) (sym same) here)
      ];
    }

-- all of them
pub ExchangedSoFar-all : (files : List Wad) (g : ℕ) (bytes : List ℕ) (lumps : List NamedLump) → ExchangedSoFar files g bytes lumps (length (joined files)) → AreExchanged files g bytes lumps
ExchangedSoFar-all files g bytes lumps so_far = record {
  named = so_far.named ∙ take_all (length (joined files)) (names files) (omega (arith, length-map (joined files) listed_name));
  each = so_far.each;
}

-- the one file of a set
pub one_file : (set : List Wad) (bytes : List ℕ) → map (λ (f : Wad). f.bytes) set ≡ bytes ∷ [] → All IsRead set → (file : Wad) × (set ≡ file ∷ []) × (file.bytes ≡ bytes) × IsRead file
one_file [] bytes same read = absurd cc
one_file (file ∷ []) bytes same read = (file, refl, cc, All-head IsRead file [] read)
one_file (file ∷ other ∷ more) bytes same read = absurd cc

-- what the packed lumps read as
pub packs_exchanged : ReadsAsPacked → (old new : Wad) (g : ℕ) (bytes : List ℕ) (lumps : List NamedLump) → g < length (joined (old ∷ [])) → AreExchanged (old ∷ []) g bytes lumps
    → map (λ (e : Entry). name_of e.name) new.entries ≡ map (λ (l : NamedLump). l.name) lumps → AllZip (λ (e : Entry) (l : NamedLump). IsSlice new.bytes e l.bytes) new.entries lumps
    → IsExchanged (old ∷ []) (new ∷ []) g bytes
packs_exchanged law old new g bytes lumps there are named slices =
    let reads = law new lumps named slices in
    record {
      same_names = reads.0 ∙ are.named;
      there = there;
      lumps = λ i within.
          let long : length lumps ≡ length (joined (old ∷ [])) =
          sym (length-map lumps (λ (l : NamedLump). l.name)) ∙ ap length are.named ∙ length-map (joined (old ∷ [])) listed_name in
          let none : NamedLump = record { name = []; bytes = [] } in
          let lump = get_or lumps i none in
          let at : slice_get lumps i ≡ Some lump = slice_get-get_or lumps i none (omega (arith, long, within)) in
          (lump.bytes, are.each i lump at, reads.1 i lump at);
    }

-- why the one file's lumps are not all taken up, or not packed
module _ (bytes : List ℕ) (g : ℕ) (other : List ℕ) (old : Wad) (was : old.bytes ≡ bytes) (read : IsRead old) where
  pub stops_exchange : (fault : ExchangeFault) → StopsExchange (old ∷ []) g fault → RefusesExchange bytes g other fault
  stops_exchange (exchange.Set _) stops = absurd stops
  stops_exchange (exchange.Lump fault) lacks = (old, was, read, lacks)
  stops_exchange (exchange.Pack pack.TooLarge) memory = absurd cc
  stops_exchange (exchange.Pack pack.Memory) memory = tt

  pub pack_refused : {T : Type 0} (lumps : List NamedLump) (fault : PackFault) → g < length (joined (old ∷ [])) → AreExchanged (old ∷ []) g other lumps
      → (IsErrOf {T = T} (Err fault) pack.TooLarge ↔ (2 ^ 31 ≤ length (packed lumps))) → RefusesExchange bytes g other (exchange.Pack fault)
  pack_refused lumps pack.TooLarge there are too_large = (old, lumps, was, read, there, are, too_large.0 refl)
  pack_refused lumps pack.Memory there are too_large = tt
