-- What a packed file reads as: its directory, the names and the lumps.
use Rattle.std.proofs.Common.{◌≡◌, ℕ, suc, ◌+◌, ◌<◌, ◌≤◌, pos, List, [], ◌∷◌, ◌++◌, length, map, refl, sym, ap, ◌∙◌, arith}
use Rattle.std.specs.List.{All, AllZip, flat_map}
use Rattle.std.proofs.lemmas.List.{append-nil, append_assoc, length-append}
use Rattle.std.proofs.lemmas.List.Elements.{All-head, All-tail}
use Rattle.le_rec.specs.Name.{name_of, padded}
use Rattle.le_rec.proofs.NumberLemmas.{signed32-bytes32}
use Rattle.le_rec.proofs.FieldLemmas.{name_bytes-is}
use Rattle.le_rec.specs.Record.{entry}
use Rattle.le_rec.specs.Record.{entry_bytes}
use Rattle.le_rec.specs.declared.records.Entry.{Entry}
use Rattle.wad_dir.specs.Header.{header_bytes}
use Rattle.wad_dir.specs.declared.header.Kind.TheVariants.{Pwad}
use Rattle.wad_dir.specs.Directory.{AreRecords, IsDirectory}
use Rattle.wad_dir.specs.Slice.{IsSlice}
use Rattle.wad_dir.specs.Packing.{NamedLump, IsName, lump_bytes, entries_from, packed_entries, packed_header, packed}
use Rattle.wad_dir.proofs.PackingLemmas.{FitsSigned-pos, length-packed}

abbrev AllNames : List NamedLump → Type 0
AllNames lumps = All (λ (l : NamedLump). IsName l.name) lumps

length-entries_from : (place : ℕ) (lumps : List NamedLump)
    → length (entries_from place lumps) ≡ length lumps
length-entries_from place [] = refl
length-entries_from place (l ∷ lumps) = ap suc (length-entries_from (place + length l.bytes) lumps)

-- the bytes of an entry read as that entry
entry_reads : (place size : ℕ) (name : List ℕ) → place < 2147483648 → size < 2147483648
    → length name ≡ 8
    → entry (entry_bytes (record { filepos = pos place; size = pos size; name = name }))
    ≡ record { filepos = pos place; size = pos size; name = name }
entry_reads place size name p s eight =
    rw (
      signed32-bytes32 (pos place) (FitsSigned-pos place p),
      signed32-bytes32 (pos size) (FitsSigned-pos size s),
      name_bytes-is name eight,
    ) refl

AreRecords-packed : (place : ℕ) (lumps : List NamedLump)
    → place + length (lump_bytes lumps) < 2147483648 → AllNames lumps
    → AreRecords (flat_map entry_bytes (entries_from place lumps)) (entries_from place lumps)
AreRecords-packed place [] fits named = refl
AreRecords-packed place (l ∷ lumps) fits named =
    let sums = length-append l.bytes (lump_bytes lumps) in
    let first : IsName l.name = All-head (λ (k : NamedLump). IsName k.name) l lumps named in (
      entry_bytes (record {
        filepos = pos place;
        size = pos (length l.bytes);
        name = padded l.name;
      }),
      flat_map entry_bytes (entries_from (place + length l.bytes) lumps),
      refl,
      record {
        long = refl;
        reads =
            entry_reads place (length l.bytes) (padded l.name) (omega arith)
            (omega (arith, sums)) first.eight;
      },
      AreRecords-packed (place + length l.bytes) lumps (omega (arith, sums))
          (All-tail (λ (k : NamedLump). IsName k.name) l lumps named),
    )

pub packed-directory : (lumps : List NamedLump) → AllNames lumps
    → length (packed lumps) ≤ 2147483647 → IsDirectory (packed lumps) Pwad (packed_entries lumps)
packed-directory lumps named most =
    let whole = length-packed lumps in
    let n : ℕ = length lumps in
    let at : ℕ = 12 + length (lump_bytes lumps) in
    let table = flat_map entry_bytes (packed_entries lumps) in
    let head : List ℕ = header_bytes (packed_header lumps) in
    let behind : length (head ++ lump_bytes lumps) ≡ at = omega arith in
    record {
      header = omega (arith, whole);
      begins = refl;
      counted =
          signed32-bytes32 (pos n) (FitsSigned-pos n (omega (arith, whole)))
          ∙ ap pos (sym (length-entries_from 12 lumps));
      listed = λ some. record {
        table = table;
        records = AreRecords-packed 12 lumps (omega (arith, whole)) named;
        stands = record {
          before = head ++ lump_bytes lumps;
          after = [];
          joined =
              ap (λ bs. head ++ (lump_bytes lumps ++ bs)) (sym (append-nil table))
              ∙ sym (append_assoc head (lump_bytes lumps) (table ++ []));
          placed =
              ap pos behind
              ∙ sym (signed32-bytes32 (pos at) (FitsSigned-pos at (omega (arith, whole))));
        };
      };
    }

pub packed-names : (place : ℕ) (lumps : List NamedLump) → AllNames lumps
    → map (λ (e : Entry). name_of e.name) (entries_from place lumps)
    ≡ map (λ (l : NamedLump). l.name) lumps
packed-names place [] named = refl
packed-names place (l ∷ lumps) named =
    ap (λ x. x ∷ map (λ (e : Entry). name_of e.name) (entries_from (place + length l.bytes) lumps))
    (All-head (λ (k : NamedLump). IsName k.name) l lumps named).kept
    ∙ ap (λ xs. l.name ∷ xs)
    (packed-names (place + length l.bytes) lumps
    (All-tail (λ (k : NamedLump). IsName k.name) l lumps named))

slices_from : (bytes front after : List ℕ) (place : ℕ) (lumps : List NamedLump)
    → bytes ≡ front ++ (lump_bytes lumps ++ after) → length front ≡ place
    → AllZip (λ (e : Entry) (l : NamedLump). IsSlice bytes e l.bytes)
    (entries_from place lumps) lumps
slices_from bytes front after place [] whole at = tt
slices_from bytes front after place (l ∷ lumps) whole at =
    let here : bytes ≡ front ++ (l.bytes ++ (lump_bytes lumps ++ after)) =
    whole ∙ ap (λ bs. front ++ bs) (append_assoc l.bytes (lump_bytes lumps) after) in (
      record {
        sized = refl;
        stands =
            λ some. record {
              before = front;
              after = lump_bytes lumps ++ after;
              joined = here;
              placed = ap pos at;
            };
      },
      slices_from bytes (front ++ l.bytes) after (place + length l.bytes) lumps
          (here ∙ sym (append_assoc front l.bytes (lump_bytes lumps ++ after)))
          (length-append front l.bytes ∙ ap (λ n. n + length l.bytes) at),
    )

pub packed-slices : (lumps : List NamedLump)
    → AllZip (λ (e : Entry) (l : NamedLump). IsSlice (packed lumps) e l.bytes)
    (packed_entries lumps) lumps
packed-slices lumps =
    slices_from (packed lumps) (header_bytes (packed_header lumps))
    (flat_map entry_bytes (packed_entries lumps)) 12 lumps refl refl
