-- A level without its nodes is that of lumps that were cut.
use Rattle.std.proofs.Common.{◌≡◌, ℕ, zero, suc, ◌+◌, ◌*◌, ◌/◌, ◌%◌, ◌<◌, ◌≤◌, List, length, take, drop, map, refl, sym, ap, ◌∙◌, arith}
use Rattle.std.specs.List.{range_with_len}
use Rattle.std.proofs.Math.Nat.{mul-div_cancel_left, mul-mod_right}
use Rattle.std.proofs.lemmas.Nat.{le-div}
use Rattle.std.proofs.lemmas.List.{drop-take, length-take-le, take-take}
use Rattle.std.proofs.lemmas.List.FromFn.{length-map-range_with_len, take-map-range_with_len}
use Rattle.le_rec.specs.Table.{Rows, piece, records_of, rows_of}
use Rattle.le_rec.specs.Record.{vertex}
use Rattle.le_rec.specs.declared.records.Vertex.{Vertex}
use Rattle.std.proofs.Math.Nat.{div-mul-le_self}
use Rattle.map_level.specs.Level.{bare_lumps_of, bare_of, level_of, lump_of, rows_alone}
use Rattle.map_level.specs.declared.reading.Reading.{Reading}

-- functions that agree at some numbers give the same list of them
map_alike : {X : Type 0} (f g : ℕ → X) (a n : ℕ) → ((k : ℕ) → k < a + n → f k ≡ g k)
    → map f (range_with_len a n) ≡ map g (range_with_len a n)
map_alike f g a zero alike = refl
map_alike f g a (suc n) alike =
    let here : f a ≡ g a = alike a (omega arith) in
    let later = map_alike f g (a + 1) n (λ k below. alike k (omega (arith, below))) in
    rw (here, later) refl

-- how many numbers are between
between : (i count : ℕ) → i < count → (more : ℕ) × (count ≡ i + 1 + more)
between zero zero below = elim below [ ]
between (suc i) zero below = elim below [ ]
between zero (suc count) below = (count, omega arith)
between (suc i) (suc count) below =
    let rest = between i count (omega (arith, below)) in (rest.0, omega (arith, rest.1))

-- the piece of a number whose bytes are kept
piece_kept : (size i more : ℕ) (bytes : List ℕ) → piece size (take (i * size + (size + size * more)) bytes) i ≡ piece size bytes i
piece_kept size i more bytes =
    ap (take size) (drop-take (i * size) (size + size * more) bytes)
    ∙ take-take size (size + size * more) (drop (i * size) bytes) (omega arith)

piece-take : (size count i : ℕ) (bytes : List ℕ) → i < count → piece size (take (size * count) bytes) i ≡ piece size bytes i
piece-take size count i bytes kept =
    let rest = between i count kept in
    let long : size * count ≡ i * size + (size + size * rest.0) = omega (arith, ap (λ n. size * n) rest.1) in
    ap (λ n. piece size (take n bytes) i) long ∙ piece_kept size i rest.0 bytes

-- as many records as the bytes have room for
count_below : (size count n : ℕ) → 0 < size → size * count ≤ n → count ≤ n / size
count_below size count n some there = le-div count n size some (omega (arith, there))

none_left : (size count : ℕ) → 0 < size → size * count % size ≡ 0
none_left size count some = mul-mod_right size count

-- the first records are those of the first bytes, of which nothing is left over
pub rows_of-take : {R : Type 0} (size count : ℕ) (read : List ℕ → R) (bytes : List ℕ) → 0 < size → size * count ≤ length bytes
    → rows_of size read (take (size * count) bytes) ≡ rows_alone (take count (records_of size read bytes))
rows_of-take size count read bytes some there =
    let long = length-take-le (size * count) bytes there in
    let many : length (take (size * count) bytes) / size ≡ count = ap (λ n. n / size) long ∙ mul-div_cancel_left count some in
    let rest : length (take (size * count) bytes) % size ≡ 0 = ap (λ n. n % size) long ∙ none_left size count some in
    let kept = map_alike (λ i. read (piece size (take (size * count) bytes) i)) (λ i. read (piece size bytes i)) 0 count
    (λ i below. ap read (piece-take size count i bytes (omega (arith, below)))) in
    let first = take-map-range_with_len (λ i. read (piece size bytes i)) 0 (length bytes / size) count
    (count_below size count (length bytes) some there) in
    rw (many, rest) (ap rows_alone (kept ∙ sym first))

-- vertexes that are there have their bytes there
pub vertex_bytes : (bytes : List ℕ) (count : ℕ) → count ≤ length (records_of 4 vertex bytes) → 4 * count ≤ length bytes
vertex_bytes bytes count there =
    omega (
      arith,
      there,
      length-map-range_with_len (λ i. vertex (piece 4 bytes i)) 0 (length bytes / 4),
      div-mul-le_self (length bytes) 4,
    )

-- the level of lumps that were cut
pub bare_is : (label : ℕ) (reading : Reading) (names : List (List ℕ)) (lumps : List (List ℕ)) (count : ℕ) → 4 * count ≤ length (lump_of lumps 4)
    → level_of label reading names (bare_lumps_of lumps count) ≡ bare_of (level_of label reading names lumps) count
bare_is label reading names lumps count there =
    ap (λ (rows : Rows Vertex). record (bare_of (level_of label reading names lumps) count) { vertexes = rows })
    (rows_of-take 4 count vertex (lump_of lumps 4) (omega arith) there)
