-- The lumps of a set of one file.
use Rattle.std.proofs.Common.{◌≡◌, ℕ, zero, suc, ◌+◌, ◌<◌, pos, List, [], ◌∷◌, ◌++◌, length, take, drop, map, Option, None, Some, refl, sym, ap, subst, ◌∙◌, arith}
use Rattle.std.specs.List.{slice_get}
use Rattle.std.specs.Option.{option_map}
use Rattle.std.proofs.lemmas.List.{length-append}
use Rattle.std.proofs.lemmas.Option.{same_Some}
use Rattle.le_rec.specs.declared.records.Entry.{Entry}
use Rattle.wad_dir.specs.Entries.{Listed, joined}
use Rattle.wad_dir.specs.Place.{place_of}
use Rattle.wad_dir.specs.Slice.{IsLump}
use Rattle.wad_dir.specs.Standing.{StandsAt}
use Rattle.wad_dir.specs.Wad.{Wad}
use Rattle.wad_dir.specs.declared.set.Place.{Place}
use Rattle.wad_dir.proofs.StandingLemmas.{StandsAt-is}
use Rattle.look_engines.specs.Opening.{AreRead}
use Rattle.wadlook_c.specs.Lumps.{TellsLump}

-- the bytes of an entry that may be there
abbrev bytes_or : Option Listed → List ℕ
bytes_or None = []
bytes_or (Some listed) = listed.bytes

listed_bytes : (n : ℕ) (bytes : List ℕ) (entries : List Entry) (g : ℕ) (listed : Listed)
    → slice_get (map (λ e. record { file = n; bytes = bytes; entry = e }) entries ++ []) g ≡ Some listed → listed.bytes ≡ bytes
listed_bytes n bytes [] g listed e = cc
listed_bytes n bytes (entry ∷ entries) zero listed e = sym (ap bytes_or e)
listed_bytes n bytes (entry ∷ entries) (suc g) listed e = listed_bytes n bytes entries g listed e

-- each entry lies in the file
one_bytes : (files : List Wad) (wad : List ℕ) (g : ℕ) (listed : Listed)
    → map (λ file. file.bytes) files ≡ wad ∷ [] → slice_get (joined files) g ≡ Some listed → listed.bytes ≡ wad
one_bytes [] wad g listed of e = cc
one_bytes (file ∷ []) wad g listed of e =
    let is : file.bytes ≡ wad = cc in
    listed_bytes 1 file.bytes file.entries g listed e ∙ is
one_bytes (file ∷ next ∷ files) wad g listed of e = cc

-- what an entry says of its place is what is read of it
pub filepos_read : (files : List Wad) (g : ℕ) (listed : Listed) (place : Place)
    → Some place ≡ option_map place_of (slice_get (joined files) g) → slice_get (joined files) g ≡ Some listed
    → place.filepos ≡ listed.entry.filepos
filepos_read files g listed place e numbered =
    ap (λ (p : Place). p.filepos) (same_Some place (place_of listed) (e ∙ ap (option_map place_of) numbered))

-- a lump's bytes lie at a natural place
pub lump_placed : (files : List Wad) (g : ℕ) (lump : List ℕ) → (there : IsLump files g lump) → 0 < length lump
    → (n : ℕ) × (there.listed.entry.filepos ≡ pos n)
lump_placed files g lump there some =
    let stands = there.slice.stands some in (length stands.before, sym stands.placed)

-- a lump is told by its place and its size
pub lump_told : (files : List Wad) (wad : List ℕ) (g : ℕ) (lump : List ℕ) (n : ℕ) → AreRead (wad ∷ []) files
    → (there : IsLump files g lump) → (0 < length lump → there.listed.entry.filepos ≡ pos n) → (length lump ≡ 0 → n ≡ 0)
    → TellsLump wad files (record { entry = g; place = n; size = length lump })
lump_told files wad g [] n read there placed none =
    let at : n ≡ 0 = none refl in
    rw at (record {
      listed = there.listed;
      numbered = there.numbered;
      slice = record { sized = there.slice.sized; stands = λ some. absurd (omega arith) };
      inside = omega arith;
      placed = λ some. absurd (omega arith);
    })
lump_told files wad g (x ∷ xs) n read there placed none =
    let filepos = there.listed.entry.filepos in
    let at : filepos ≡ pos n = placed (omega arith) in
    let is = one_bytes files wad g there.listed read.of_bytes there.numbered in
    let stands : StandsAt wad filepos (x ∷ xs) =
    subst (λ bytes. StandsAt bytes filepos (x ∷ xs)) is (there.slice.stands (omega arith)) in
    let here : StandsAt wad (pos n) (x ∷ xs) = subst (λ z. StandsAt wad z (x ∷ xs)) at stands in
    let same : x ∷ xs ≡ take (length (x ∷ xs)) (drop n wad) = StandsAt-is wad (x ∷ xs) n here in
    let before : length here.before ≡ n = cc in
    let long : length wad ≡ length here.before + length ((x ∷ xs) ++ here.after) =
    ap length here.joined ∙ length-append here.before ((x ∷ xs) ++ here.after) in
    record {
      listed = there.listed;
      numbered = there.numbered;
      slice = record {
        sized = subst (λ lump. pos (length lump) ≡ there.listed.entry.size) same there.slice.sized;
        stands = λ _. subst (λ lump. StandsAt wad filepos lump) same stands;
      };
      inside = omega (arith, long, before, length-append (x ∷ xs) here.after);
      placed = λ _. at;
    }
