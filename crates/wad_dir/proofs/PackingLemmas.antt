-- The bytes that lumps are packed into, and their number.
use Rattle.std.proofs.Common.{◌≡◌, ℕ, ◌+◌, ◌*◌, ◌<◌, ◌≤◌, pos, List, [], ◌∷◌, ◌++◌, length, take, get_or, refl, sym, ap, ◌∙◌, arith}
use Rattle.std.specs.List.{flat_map}
use Rattle.std.specs.Prelude.{FitsSigned}
use Rattle.std.proofs.Common.{to_z, of_z}
use Rattle.std.specs.Int.{w32}
use Rattle.std.proofs.lemmas.Int.{ints, of_z-to_z}
use Rattle.std.proofs.lemmas.Grind.{flat_map-append}
use Rattle.std.proofs.lemmas.List.{append-nil, append_assoc, length-append, take_more}
use Rattle.std.proofs.lemmas.List.Folds.{length-flat_map-take}
use Rattle.le_rec.specs.Name.{padded}
use Rattle.le_rec.specs.Number.{bytes32}
use Rattle.le_rec.specs.FieldBytes.{name_bytes}
use Rattle.le_rec.specs.Record.{entry_bytes}
use Rattle.le_rec.specs.declared.records.Entry.{Entry}
use Rattle.wad_dir.specs.Header.{header_size, header_bytes, magic_of}
use Rattle.wad_dir.specs.declared.header.Kind.TheVariants.{Pwad}
use Rattle.wad_dir.specs.Packing.{NamedLump, lump_bytes, entries_from, packed_entries, packed}

pub FitsSigned-pos : (n : ℕ) → n < 2147483648 → FitsSigned w32 (pos n)
FitsSigned-pos n h = grind (arith, ints)

-- each entry has sixteen bytes
length-entries : (place : ℕ) (lumps : List NamedLump)
    → length (flat_map entry_bytes (entries_from place lumps)) ≡ 16 * length lumps
length-entries place [] = refl
length-entries place (lump ∷ lumps) =
    let rest = length-entries (place + length lump.bytes) lumps in
    omega (arith, rest)

pub length-packed : (lumps : List NamedLump)
    → length (packed lumps) ≡ 12 + length (lump_bytes lumps) + 16 * length lumps
length-packed lumps =
    omega (
      arith,
      length-append (lump_bytes lumps) (flat_map entry_bytes (entries_from 12 lumps)),
      length-entries 12 lumps,
    )

entries_from-push : (front : List NamedLump) (lump : NamedLump) (place : ℕ)
    → entries_from place (front ++ lump ∷ [])
    ≡ entries_from place front
    ++ (record {
      filepos = pos (place + length (lump_bytes front));
      size = pos (length lump.bytes);
      name = padded lump.name;
    })
    ∷ []
entries_from-push [] lump place =
    let none : place ≡ place + 0 = omega arith in
    ap (λ (n : ℕ). let e : Entry = record {
      filepos = pos n;
      size = pos (length lump.bytes);
      name = padded lump.name;
    } in e ∷ []) none
entries_from-push (l ∷ front) lump place =
    let next : place + length l.bytes + length (lump_bytes front)
    ≡ place + length (l.bytes ++ lump_bytes front) =
    omega (arith, length-append l.bytes (lump_bytes front)) in
    let first : Entry =
    record { filepos = pos place; size = pos (length l.bytes); name = padded l.name } in
    ap (λ es. first ∷ es) (entries_from-push front lump (place + length l.bytes)
    ∙ ap (λ (n : ℕ). entries_from (place + length l.bytes) front ++ (record {
      filepos = pos n;
      size = pos (length lump.bytes);
      name = padded lump.name;
    }) ∷ []) next)

module _ (lumps : List NamedLump) (lump : NamedLump) (i : ℕ) (within : i < length lumps)
    (at : lump ≡ get_or lumps i lump) where
  taken : take (i + 1) lumps ≡ take i lumps ++ lump ∷ []
  taken = take_more lumps i lump within ∙ ap (λ l. take i lumps ++ l ∷ []) (sym at)

  pub lump_bytes_more : lump_bytes (take (i + 1) lumps) ≡ lump_bytes (take i lumps) ++ lump.bytes
  lump_bytes_more =
      ap lump_bytes taken ∙ flat_map-append (λ (l : NamedLump). l.bytes) (take i lumps) (lump ∷ [])
      ∙ ap (λ bs. lump_bytes (take i lumps) ++ bs) (append-nil lump.bytes)

  pub length-lump_bytes_more : length (lump_bytes (take (i + 1) lumps))
      ≡ length (lump_bytes (take i lumps)) + length lump.bytes
  length-lump_bytes_more =
      ap length lump_bytes_more ∙ length-append (lump_bytes (take i lumps)) lump.bytes

  pub length-lump_bytes_upto : length (lump_bytes (take i lumps)) + length lump.bytes
      ≤ length (lump_bytes lumps)
  length-lump_bytes_upto =
      omega (
        arith,
        length-flat_map-take (λ (l : NamedLump). l.bytes) lumps i lump within,
        ap (λ (l : NamedLump). length l.bytes) at,
      )

  -- one more entry stands where the lumps before it end
  pub entries_from_more : (place : ℕ) → entries_from place (take (i + 1) lumps)
      ≡ entries_from place (take i lumps)
      ++ (record {
        filepos = pos (place + length (lump_bytes (take i lumps)));
        size = pos (length lump.bytes);
        name = padded lump.name;
      })
      ∷ []
  entries_from_more place =
      ap (entries_from place) taken ∙ entries_from-push (take i lumps) lump place

  -- and its bytes follow those of the entries before it
  pub directory_more : (place : ℕ) → place ≡ 12 + length (lump_bytes (take i lumps))
      → (l : NamedLump) → l ≡ lump
      → flat_map entry_bytes (entries_from 12 (take (i + 1) lumps))
      ≡ flat_map entry_bytes (entries_from 12 (take i lumps))
      ++ (bytes32 place ++ (bytes32 (length l.bytes) ++ name_bytes (padded l.name)))
  directory_more place here l same =
      ap (flat_map entry_bytes) (entries_from_more 12)
      ∙ flat_map-append entry_bytes (entries_from 12 (take i lumps)) _
      ∙ ap (λ bs. flat_map entry_bytes (entries_from 12 (take i lumps)) ++ bs)
      (append-nil _
      ∙ ap (λ n. bytes32 n ++ (bytes32 (length lump.bytes) ++ name_bytes (padded lump.name)))
      (sym here)
      ∙ ap
      (λ (k : NamedLump). bytes32 place ++ (bytes32 (length k.bytes) ++ name_bytes (padded k.name)))
      (sym same))

-- the bytes of an entry whose numbers were cast
pub cast_entry : (place size : ℕ) (raw name : List ℕ) → place < 2147483648 → size < 2147483648
    → raw ≡ padded name
    → bytes32 (of_z w32 (to_z w32 place)) ++ (bytes32 (of_z w32 (to_z w32 size)) ++ name_bytes raw)
    ≡ bytes32 place ++ (bytes32 size ++ name_bytes (padded name))
cast_entry place size raw name p s same =
    ap (λ n. bytes32 n ++ (bytes32 (of_z w32 (to_z w32 size)) ++ name_bytes raw))
    (of_z-to_z w32 place (omega arith))
    ∙ ap (λ n. bytes32 place ++ (bytes32 n ++ name_bytes raw)) (of_z-to_z w32 size (omega arith))
    ∙ ap (λ r. bytes32 place ++ (bytes32 size ++ name_bytes r)) same

-- what was written follows what stood there
pub put_more : (old now new written added front all : List ℕ) → new ≡ now ++ written
    → written ≡ added → now ≡ old ++ front → all ≡ front ++ added
    → new ≡ old ++ all
put_more old now new written added front all put is had more =
    put ∙ ap (λ bs. now ++ bs) is ∙ ap (λ bs. bs ++ added) had ∙ append_assoc old front added
    ∙ ap (λ bs. old ++ bs) (sym more)

-- the file is the header, the lumps and the directory
pub packed_put : (lumps : List NamedLump) (old header filled whole : List ℕ) (offset : ℕ)
    → offset ≡ header_size + length (lump_bytes lumps)
    → header
    ≡ old
    ++ header_bytes (record {
      magic = magic_of Pwad;
      count = pos (length lumps);
      offset = pos offset;
    })
    → filled ≡ header ++ lump_bytes lumps
    → whole ≡ filled ++ flat_map entry_bytes (packed_entries lumps) → whole ≡ old ++ packed lumps
packed_put lumps old header filled whole offset at h f w =
    let directory = flat_map entry_bytes (packed_entries lumps) in
    let front : ℕ → List ℕ =
    λ n. header_bytes (record {
      magic = magic_of Pwad;
      count = pos (length lumps);
      offset = pos n;
    }) in
    w
    ∙ ap (λ bs. bs ++ directory) (f ∙ ap (λ bs. bs ++ lump_bytes lumps) h)
    ∙ append_assoc (old ++ front offset) (lump_bytes lumps) directory
    ∙ append_assoc old (front offset) (lump_bytes lumps ++ directory)
    ∙ ap (λ n. old ++ (front n ++ (lump_bytes lumps ++ directory))) at
