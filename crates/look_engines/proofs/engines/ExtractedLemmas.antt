-- The file that a level is packed into holds that level.
use Rattle.std.proofs.Common.{◌≡◌, ◌≢◌, ℕ, zero, suc, ◌+◌, ◌≤◌, List, [], ◌∷◌, length, map, get_or, Some, refl, ap, ◌∙◌, arith}
use Rattle.std.specs.List.{slice_get}
use Rattle.std.proofs.lemmas.List.Elements.{All-push}
use Rattle.std.proofs.lemmas.Option.{slice_get-get_or, slice_get_within}
use Rattle.le_rec.specs.Name.{query_of}
use Rattle.map_level.specs.Level.{Level, level_of, lump_of}
use Rattle.map_level.specs.Opening.{AreLumps, IsLevel}
use Rattle.map_level.specs.declared.reading.Reading.{Reading}
use Rattle.wad_dir.specs.Entries.{names}
use Rattle.wad_dir.specs.Packing.{NamedLump}
use Rattle.wad_dir.specs.Slice.{IsLump}
use Rattle.wad_dir.specs.Wad.{Wad, IsRead}
use Rattle.wad_dir.specs.Winner.{Wins}
use Rattle.wad_dir.specs.declared.header.Kind.TheVariants.{Pwad}
use Rattle.wad_dir.proofs.ReadsPackedLemmas.{reads_as_packed}
use Rattle.look_engines.proofs.engines.ExtractLemmas.{lump-at}
use Rattle.look_engines.specs.Engines.Extract.{IsPacked, named_lumps}
use Rattle.look_engines.specs.Laws.{ExtractedOpens}
use Rattle.look_engines.specs.Opening.{AreRead}

-- the names of lumps under their names
names-named : (names lumps : List (List ℕ)) → length names ≡ length lumps → map (λ (l : NamedLump). l.name) (named_lumps names lumps) ≡ names
names-named [] lumps same = refl
names-named (name ∷ names) [] same = absurd (omega arith)
names-named (name ∷ names) (bytes ∷ lumps) same = ap (λ rest. name ∷ rest) (names-named names lumps (omega arith))

-- a lump under its name stands where both stand
named-at : (names lumps : List (List ℕ)) (k : ℕ) (name bytes : List ℕ) → slice_get names k ≡ Some name → slice_get lumps k ≡ Some bytes
    → slice_get (named_lumps names lumps) k ≡ Some (record { name = name; bytes = bytes })
named-at [] lumps k name bytes at there = cc
named-at (n ∷ names) [] k name bytes at there = cc
named-at (n ∷ names) (b ∷ lumps) zero name bytes at there =
    let same_name : n ≡ name = cc in
    let same_bytes : b ≡ bytes = cc in
    rw (same_name, same_bytes) refl
named-at (n ∷ names) (b ∷ lumps) (suc k) name bytes at there = named-at names lumps k name bytes at there

module _ (bytes : List (List ℕ)) (asked file : List ℕ) (was : IsPacked bytes asked file) where
  abbrev wad : Wad
  wad = record { bytes = file; kind = Pwad; entries = was.holds.entries }

  wad_read : AreRead (file ∷ []) (wad ∷ [])
  wad_read = record { of_bytes = refl; each = All-push IsRead [] wad (λ k d below. absurd (omega (arith, below))) was.holds.directory }

  eleven : length was.has.level.names ≡ 11
  eleven = ap (λ (l : Level). length l.names) was.has.opened.there.is ∙ was.has.opened.there.named.eleven

  -- the file alone has the lumps that were packed
  packed_lumps : (names (wad ∷ []) ≡ map (λ (l : NamedLump). l.name) was.named) × ((g : ℕ) (lump : NamedLump) → slice_get was.named g ≡ Some lump → IsLump (wad ∷ []) g lump.bytes)
  packed_lumps = reads_as_packed wad was.named was.holds.named was.holds.slices

  -- the names in the file are those of the level
  same_names : names (wad ∷ []) ≡ was.has.level.names
  same_names =
      packed_lumps.0 ∙ ap (map (λ (l : NamedLump). l.name)) was.has.are
      ∙ names-named was.has.level.names ([] ∷ was.has.lumps) (omega (arith, eleven, was.has.stand.ten))

  -- lump k under its name
  abbrev lump_under : ℕ → NamedLump
  lump_under k = record { name = get_or was.has.level.names k []; bytes = lump_of was.has.lumps k }

  lump_stands : (k : ℕ) → 1 ≤ k → k ≤ 10 → slice_get was.named k ≡ Some (lump_under k)
  lump_stands k from to =
      ap (λ ls. slice_get ls k) was.has.are
      ∙ named-at was.has.level.names ([] ∷ was.has.lumps) k (get_or was.has.level.names k []) (lump_of was.has.lumps k)
      (slice_get-get_or was.has.level.names k [] (omega (arith, eleven))) (lump-at was.has.lumps k was.has.stand.ten from to)

  stands_again : AreLumps (wad ∷ []) 0 was.has.lumps
  stands_again = record {
    ten = was.has.stand.ten;
    each = λ k from to.
        let place : 0 + k ≡ k = omega arith in
        rw place (packed_lumps.1 k (lump_under k) (lump_stands k from to));
  }

  wins_again : ((k : ℕ) → 1 ≤ k → k ≤ 10 → slice_get was.has.level.names k ≢ Some (query_of asked)) → Wins (names (wad ∷ [])) (query_of asked) 0
  wins_again others = rw same_names (record {
    named = first;
    last = λ h above same. others h (omega arith) (omega (arith, eleven, slice_get_within was.has.level.names h (query_of asked) same)) same;
  })
    where
      first : slice_get was.has.level.names 0 ≡ Some (query_of asked)
      first =
          let place : was.has.level.label + 0 ≡ was.has.level.label = omega arith in
          ap (λ (l : Level). slice_get l.names 0) was.has.opened.there.is ∙ was.has.opened.there.named.each 0 (omega arith) ∙ ap (slice_get (names was.has.files)) place ∙ was.has.opened.wins.named

  opens_again : (reading : Reading) → ((k : ℕ) → 1 ≤ k → k ≤ 10 → slice_get was.has.level.names k ≢ Some (query_of asked))
      → (packed : Wad) × AreRead (file ∷ []) (packed ∷ []) × AreLumps (packed ∷ []) 0 was.has.lumps × IsLevel (packed ∷ []) (query_of asked) reading (level_of 0 reading was.has.level.names was.has.lumps)
  opens_again reading others = (
    wad,
    wad_read,
    stands_again,
    record {
      wins = wins_again others;
      there = record {
        found = was.has.level.names;
        named = record { eleven = eleven; each = λ k upto. let place : 0 + k ≡ k = omega arith in rw (place, same_names) refl };
        lumps = was.has.lumps;
        stand = stands_again;
        is = refl;
      };
    },
  )

pub extracted_opens : ExtractedOpens
extracted_opens bytes asked file was reading others = opens_again bytes asked file was reading others
