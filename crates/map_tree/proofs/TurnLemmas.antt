-- One turn of a census's loop.
use Rattle.std.proofs.Common.{ℕ, suc, ◌+◌, ◌-◌, ◌<◌, ◌≤◌, max, ◌≡◌, inl, inr, subst, List, [], ◌∷◌, length, get_or, set, Fits, w32, w64, Some, arith}
use Rattle.std.specs.Prelude.{IsSomeAnd}
use Rattle.std.specs.List.{slice_get}
use Rattle.std.proofs.lemmas.Nat.{mul-le}
use Rattle.le_rec.specs.declared.records.Node.{Node}
use Rattle.map_geo.specs.Rect.{Rect, IsRect}
use Rattle.map_level.specs.Level.{Level}
use Rattle.map_level.specs.SectorOf.{sector_of}
use Rattle.map_tree.specs.declared.pieces.Piece.{Piece}
use Rattle.map_tree.specs.declared.pieces.Halves.{Halves}
use Rattle.map_tree.specs.Paths.{Place}
use Rattle.map_tree.specs.Steps.{IsTally, IsDown, IsApart}
use Rattle.map_tree.proofs.BoundLemmas.{most_tests}
use Rattle.map_geo.proofs.PointCountLemmas.{few_points}
use Rattle.map_tree.proofs.CountLemmas.{rows_few}
use Rattle.map_tree.proofs.FewLemmas.{IsSized}
use Rattle.map_tree.proofs.HeldLemmas.{Held, Held-down, Held-rows, Held-row, Held-leaf, less-down, less-rows, less-row}
use Rattle.map_tree.proofs.PieceLemmas.{area, measure, some_and}

same_most : (m k n r : ℕ) → r ≡ max m (n + 1) → n ≡ suc k → max m (k + 2) ≡ r
same_most m k n r h e = omega arith

fits_tests : (tests rest most : ℕ) → tests + rest ≤ most → most ≤ 19327352832 → Fits w64 tests
fits_tests tests rest most h k = omega arith

fits_most : (most whole : ℕ) → most ≤ whole → whole ≤ 1048576 → Fits w32 most
fits_most most whole h k = omega arith

size_few : (n m : ℕ) → n ≤ m → m ≤ 32767 → n ≤ 32767
size_few n m h k = omega arith

add_none : (a b : ℕ) → a + 0 ≡ b → a ≡ b
add_none a b h = omega arith

most_few : (k m : ℕ) → k ≤ 32768 → m ≤ 32767 → most_tests k m ≤ 19327352832
most_few k m h j = omega (arith, mul-le k m 32768 32767 h j)

module _ (level : Level) (size : Place → ℕ) (rect : Rect) (sized : IsSized level size) (valid : IsRect rect) where
  pub tests_fit : (stack : List Piece) (counts : List ℕ) (tests most : ℕ) → Held level size rect stack counts tests most → Fits w64 tests
  tests_fit stack counts tests most held =
      fits_tests tests _ _ held.budget (most_few _ _ (rows_few rect valid) (size_few _ _ sized.whole_size sized.few))

  pub most_fits : (stack : List Piece) (counts : List ℕ) (tests most : ℕ) → Held level size rect stack counts tests most → Fits w32 most
  most_fits stack counts tests most held = fits_most most _ held.shallow (few_points rect valid)

  pub done : (counts : List ℕ) (tests most : ℕ) → Held level size rect [] counts tests most → IsTally level rect counts tests most
  done counts tests most held = record {
    counted = λ sector tells s. add_none _ _ (held.counted sector tells s);
    total = add_none _ _ held.added;
    work = held.owes;
  }

  module _ (p : Piece) (rest : List Piece) (counts : List ℕ) (tests most : ℕ) (held : Held level size rect (p ∷ rest) counts tests most) where
    pub turn-leaf : (k more : ℕ) → 32768 ≤ p.word → sector_of level (p.word - 32768) ≡ Some k → k < length counts → more ≡ area p → Held level size rect rest (set counts k (get_or counts k 0 + more)) tests most
    turn-leaf k more above sector_is within_counts more_is =
        rw more_is (Held-leaf level size rect sized p rest counts tests most k above sector_is held within_counts)

    pub turn-down : (next : Piece) → (p.word < 32768) × IsSomeAnd (slice_get level.nodes.records p.word) (λ found. IsDown found p next) → Held level size rect (next ∷ rest) counts (tests + 1) most
    turn-down next h =
        let at = some_and (slice_get level.nodes.records p.word) (λ found. IsDown found p next) h.1 in
        rw at.2.next_is (Held-down level size rect sized p rest counts tests most at.0 h.0 at.1 held at.2.s at.2.on)

    pub fewer-down : (next : Piece) → (p.word < 32768) × IsSomeAnd (slice_get level.nodes.records p.word) (λ found. IsDown found p next) → measure size (next ∷ rest) < measure size (p ∷ rest)
    fewer-down next h =
        let at = some_and (slice_get level.nodes.records p.word) (λ found. IsDown found p next) h.1 in
        rw at.2.next_is (less-down level size rect sized p rest counts tests most at.0 h.0 at.1 held at.2.s)

    apart_at : (halves : Halves) (found : Node) → p.word < 32768 → slice_get level.nodes.records p.word ≡ Some found → IsApart found p halves → Held level size rect (halves.second ∷ (halves.first ∷ rest)) counts (tests + halves.tests) (max most (length rest + 2))
    apart_at halves found below is apart = elim apart.way [
      | inl r ↦ rw (r.first, r.second, r.tests) (Held-rows level size rect sized p rest counts tests most found below is held r.y apart.cut r.middle)
      | inr r ↦ rw (r.1.first, r.1.second, r.1.tests) (Held-row level size rect sized p rest counts tests most found below is held r.1.s r.1.c r.1.h apart.cut r.0 r.1.left r.1.last r.1.halvings)
    ]

    pub turn-apart : (halves : Halves) → (p.word < 32768) × IsSomeAnd (slice_get level.nodes.records p.word) (λ found. IsApart found p halves) → Held level size rect (halves.second ∷ (halves.first ∷ rest)) counts (tests + halves.tests) (max most (length rest + 2))
    turn-apart halves h =
        let at = some_and (slice_get level.nodes.records p.word) (λ found. IsApart found p halves) h.1 in
        apart_at halves at.0 h.0 at.1 at.2

    fewer_at : (halves : Halves) (found : Node) → p.word < 32768 → slice_get level.nodes.records p.word ≡ Some found → IsApart found p halves → measure size (halves.second ∷ (halves.first ∷ rest)) < measure size (p ∷ rest)
    fewer_at halves found below is apart = elim apart.way [
      | inl r ↦ rw (r.first, r.second) (less-rows level size rect sized p rest counts tests most found below is held r.y r.middle)
      | inr r ↦ rw (r.1.first, r.1.second) (less-row level size rect sized p rest counts tests most found below is held r.1.s r.1.c r.1.h apart.cut r.0 r.1.left r.1.last r.1.halvings)
    ]

    pub fewer-apart : (halves : Halves) → (p.word < 32768) × IsSomeAnd (slice_get level.nodes.records p.word) (λ found. IsApart found p halves) → measure size (halves.second ∷ (halves.first ∷ rest)) < measure size (p ∷ rest)
    fewer-apart halves h =
        let at = some_and (slice_get level.nodes.records p.word) (λ found. IsApart found p halves) h.1 in
        fewer_at halves at.0 h.0 at.1 at.2

    pub turn-pushed : (halves : Halves) (len_now most_now : ℕ) → (p.word < 32768) × IsSomeAnd (slice_get level.nodes.records p.word) (λ found. IsApart found p halves) → most_now ≡ max most (len_now + 1) → len_now ≡ suc (length rest) → Held level size rect (halves.second ∷ (halves.first ∷ rest)) counts (tests + halves.tests) most_now
    turn-pushed halves len_now most_now h e f =
        subst (Held level size rect (halves.second ∷ (halves.first ∷ rest)) counts (tests + halves.tests)) (same_most most (length rest) len_now most_now e f) (turn-apart halves h)
