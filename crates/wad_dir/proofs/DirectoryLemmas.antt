-- The entries of a table, and that bytes have one directory or are refused by one fault.
use Rattle.std.proofs.Common.{◌≡◌, ℕ, zero, suc, ◌+◌, ◌*◌, ◌/◌, List, [], ◌∷◌, ◌++◌, length, take, drop, map, refl, sym, ap, ◌∙◌, arith, subst}
use Rattle.std.proofs.lemmas.List.{length-append, length-take-le, length-drop, take-append-drop, drop-drop, take_at, drop_at, nil_from_length}
use Rattle.std.specs.List.{range_with_len}
use Rattle.le_rec.specs.Record.{entry}
use Rattle.le_rec.specs.declared.records.Entry.{Entry}
use Rattle.wad_dir.specs.Directory.{AreRecords, HasTable}
use Rattle.le_rec.specs.Table.{piece, records_of}
use Rattle.wad_dir.proofs.StandingLemmas.{StandsAt-one}

-- behind a first piece the pieces are those of the rest
piece-behind : (front rest : List ℕ) (i : ℕ) → length front ≡ 16
    → piece 16 (front ++ rest) (i + 1) ≡ piece 16 rest i
piece-behind front rest i long =
    let behind : drop 16 (front ++ rest) ≡ rest = drop_at front rest 16 long in
    let next : (i + 1) * 16 ≡ 16 + i * 16 = omega arith in
    ap (λ n. take 16 (drop n (front ++ rest))) next
    ∙ ap (take 16) (sym (drop-drop (i * 16) 16 (front ++ rest)))
    ∙ ap (λ xs. take 16 (drop (i * 16) xs)) behind

pieces-behind : (front rest : List ℕ) (n first : ℕ) → length front ≡ 16
    → map (λ i. entry (piece 16 (front ++ rest) i)) (range_with_len (first + 1) n)
    ≡ map (λ i. entry (piece 16 rest i)) (range_with_len first n)
pieces-behind front rest zero first long = refl
pieces-behind front rest (suc n) first long =
    ap
    (λ b. entry b
    ∷ map (λ i. entry (piece 16 (front ++ rest) i)) (range_with_len (first + 1 + 1) n))
    (piece-behind front rest first long)
    ∙ ap (λ es. entry (piece 16 rest first) ∷ es) (pieces-behind front rest n (first + 1) long)

-- the records of a table are that of its first piece and those of the rest
records_of-front : (front rest : List ℕ) → length front ≡ 16
    → records_of 16 entry (front ++ rest) ≡ entry front ∷ records_of 16 entry rest
records_of-front front rest long =
    let count : length (front ++ rest) / 16 ≡ suc (length rest / 16) =
    omega (arith, length-append front rest) in
    ap (λ n. map (λ i. entry (piece 16 (front ++ rest) i)) (range_with_len 0 n)) count
    ∙ ap
    (λ b. entry b
    ∷ map (λ i. entry (piece 16 (front ++ rest) i)) (range_with_len 1 (length rest / 16)))
    (take_at front rest 16 long)
    ∙ ap (λ es. entry front ∷ es) (pieces-behind front rest (length rest / 16) 0 long)

-- a table's bytes are the joined records of its entries
pub AreRecords-records_of : (n : ℕ) (table : List ℕ) → length table ≡ 16 * n
    → AreRecords table (records_of 16 entry table)
AreRecords-records_of zero table long = rw (nil_from_length table (omega arith)) refl
AreRecords-records_of (suc n) table long =
    let front : length (take 16 table) ≡ 16 = length-take-le 16 table (omega arith) in
    let split : take 16 table ++ drop 16 table ≡ table = take-append-drop 16 table in
    let rest = AreRecords-records_of n (drop 16 table) (length-drop 16 table ∙ omega arith) in
    subst (AreRecords table) (sym (records_of-front (take 16 table) (drop 16 table) front)
    ∙ ap (records_of 16 entry) split)
    (take 16 table, drop 16 table, sym split, record { long = front; reads = refl }, rest)

pub AreRecords-length : (table : List ℕ) (entries : List Entry) → AreRecords table entries
    → length table ≡ 16 * length entries
AreRecords-length table [] h = ap length h
AreRecords-length table (e ∷ entries) h =
    ap length h.2
    ∙ omega (arith, length-append h.0 h.1, h.3.long, AreRecords-length h.1 entries h.4)

-- joined records are those of one list of entries
pub AreRecords-is : (table : List ℕ) (entries : List Entry) → AreRecords table entries
    → entries ≡ records_of 16 entry table
AreRecords-is table [] h = rw h refl
AreRecords-is table (e ∷ entries) h =
    ap (λ x. x ∷ entries) (sym h.3.reads)
    ∙ ap (λ xs. entry h.0 ∷ xs) (AreRecords-is h.1 entries h.4)
    ∙ sym (records_of-front h.0 h.1 h.3.long)
    ∙ ap (records_of 16 entry) (sym h.2)

-- bytes have one table of a length
pub HasTable-one : (bytes : List ℕ) (entries others : List Entry) → HasTable bytes entries
    → HasTable bytes others → length entries ≡ length others → entries ≡ others
HasTable-one bytes entries others h k same =
    let long : length h.table ≡ length k.table =
    AreRecords-length h.table entries h.records ∙ ap (λ n. 16 * n) same
    ∙ sym (AreRecords-length k.table others k.records) in
    let one : h.table ≡ k.table = StandsAt-one bytes h.table k.table _ h.stands k.stands long in
    AreRecords-is h.table entries h.records ∙ ap (records_of 16 entry) one
    ∙ sym (AreRecords-is k.table others k.records)
