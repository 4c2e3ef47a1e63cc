-- Records in bytes, by their numbers.
use Rattle.std.proofs.Common.{◌≡◌, ℕ, zero, suc, ◌-◌, ◌<◌, ◌≤◌, ◌/◌, List, [], ◌∷◌, length, take, Some, None, refl, ap, sym, ◌∙◌, arith}
use Rattle.std.specs.List.{slice_get}
use Rattle.std.specs.Option.{option_map}
use Rattle.std.proofs.lemmas.Bool.{cond-false, cond-true, le-ltb, lt-ltb}
use Rattle.std.proofs.lemmas.List.{length-take-le}
use Rattle.std.proofs.lemmas.Option.{slice_get_past}
use Rattle.le_rec.specs.Record.{vertex}
use Rattle.le_rec.specs.Table.{piece, records_of}
use Rattle.le_rec.proofs.TableLemmas.{length-records_of, slice_get-records_of}
use Rattle.node_lumps.specs.Later.{Later, counts_of, vertex_of}
use Rattle.node_lumps.specs.Number.{unsigned32_at}
use Rattle.node_lumps.specs.Records.{fine_vertex, whole_vertex}
use Rattle.le_rec.specs.declared.records.Vertex.{Vertex}
use Rattle.node_lumps.specs.declared.records.FineVertex.{FineVertex}

module _ {R : Type 0} (size : ℕ) (read : List ℕ → R) (bytes : List ℕ) where
  -- the record of a piece
  pub record_found : (found : List ℕ) (index : ℕ) → index < length bytes / size
      → found ≡ piece size bytes index
      → Some (read found) ≡ slice_get (records_of size read bytes) index
  record_found found index within is =
      ap (λ p. Some (read p)) is ∙ sym (slice_get-records_of size read bytes index within)

  -- behind the last one there is none
  pub record_none : (index : ℕ) → length bytes / size ≤ index
      → None ≡ slice_get (records_of size read bytes) index
  record_none index past =
      sym (slice_get_past (records_of size read bytes) index (rw (length-records_of size read bytes) past))

-- the count of a piece
pub count_found : (bytes found : List ℕ) (index count : ℕ) → index < length bytes / 4
    → found ≡ piece 4 bytes index → count ≡ unsigned32_at found 0
    → slice_get (counts_of bytes) index ≡ Some count
count_found bytes found index count within is reads =
    sym (record_found 4 (λ piece. unsigned32_at piece 0) bytes found index within is) ∙ ap Some (sym reads)

-- how many there are
pub length_records : {R : Type 0} (size : ℕ) (read : List ℕ → R) (bytes : List ℕ)
    → length bytes / size ≡ length (records_of size read bytes)
length_records size read bytes = sym (length-records_of size read bytes)

-- the first of some records
pub slice_get-take : {X : Type 0} (n : ℕ) (xs : List X) (i : ℕ) → i < n
    → slice_get (take n xs) i ≡ slice_get xs i
slice_get-take zero xs i h = absurd (omega arith)
slice_get-take (suc n) [] i h = refl
slice_get-take (suc n) (x ∷ xs) zero h = refl
slice_get-take (suc n) (x ∷ xs) (suc i) h = slice_get-take n xs i (omega arith)

-- the vertexes of VERTEXES that a level has
pub length_vertexes : (count : ℕ) (bytes : List ℕ) → count ≤ length bytes / 4
    → length (take count (records_of 4 vertex bytes)) ≡ count
length_vertexes count bytes few =
    length-take-le count (records_of 4 vertex bytes) (rw (length-records_of 4 vertex bytes) few)

vertex_low : (later : Later) (k : ℕ) → k < length later.vertexes
    → vertex_of later k ≡ option_map whole_vertex (slice_get later.vertexes k)
vertex_low later k low = cond-true _ _ _ (lt-ltb k (length later.vertexes) low)

vertex_high : (later : Later) (k : ℕ) → length later.vertexes ≤ k
    → vertex_of later k ≡ slice_get later.new_vertexes (k - length later.vertexes)
vertex_high later k high = cond-false _ _ _ (le-ltb k (length later.vertexes) high)

module _ (later : Later) (count : ℕ) (vertexes : List ℕ)
    (are : later.vertexes ≡ take count (records_of 4 vertex vertexes)) (few : count ≤ length vertexes / 4) where
  so_many : length later.vertexes ≡ count
  so_many = ap length are ∙ length_vertexes count vertexes few

  -- a number below that of the level's vertexes names one of these
  pub vertex_below : (k : ℕ) → k < count
      → option_map whole_vertex (slice_get (records_of 4 vertex vertexes) k) ≡ vertex_of later k
  vertex_below k below =
      sym (vertex_low later k (omega (arith, so_many))
      ∙ ap (λ (l : List Vertex). option_map whole_vertex (slice_get l k)) are
      ∙ ap (option_map whole_vertex) (slice_get-take count (records_of 4 vertex vertexes) k below))

  -- another a new one
  pub vertex_above : (new_vertexes : List ℕ) (k : ℕ)
      → later.new_vertexes ≡ records_of 8 fine_vertex new_vertexes → count ≤ k
      → slice_get (records_of 8 fine_vertex new_vertexes) (k - count) ≡ vertex_of later k
  vertex_above new_vertexes k news above =
      sym (vertex_high later k (omega (arith, so_many))
      ∙ ap (λ n. slice_get later.new_vertexes (k - n)) so_many
      ∙ ap (λ (l : List FineVertex). slice_get l (k - count)) news)
