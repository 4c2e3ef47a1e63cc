-- Cells, row by row.
use Rattle.std.proofs.Common.{◌≡◌, ◌↔◌, ◌∙◌, ℕ, zero, suc, ◌+◌, ◌-◌, ◌*◌, ◌<◌, ◌≤◌, replicate, inl, inr, List, [], ◌∷◌, ◌++◌, length, Option, Some, None, refl, sym, subst, ap, arith}
use Rattle.std.proofs.Math.Nat.{mul-le-mul_right}
use Rattle.std.specs.Prelude.{option_and_then}
use Rattle.std.specs.List.{slice_get}
use Rattle.std.proofs.lemmas.Bool.{cases_lt, lt-ltb, le-ltb}
use Rattle.std.proofs.lemmas.List.{append_assoc, append-nil, length-append}
use Rattle.std.proofs.lemmas.Nat.{row_fits}
use Rattle.std.proofs.lemmas.Option.{slice_get_past}
use Rattle.map_level.specs.Level.{Level}
use Rattle.map_cells.specs.Grid.{Grid, columns_of, rows_of, cell_x, cell_y}
use Rattle.map_cells.specs.Cells.{Cells, IsWhole, cell, AreCells, AddsRow, GoesOn, TellsCell}
use Rattle.map_cells.specs.Row.{Row}
use Rattle.map_cells.specs.Shown.{IsShown}

-- an item of two joined lists
slice_get-append_left : {X : Type 0} (xs ys : List X) (i : ℕ) → i < length xs → slice_get (xs ++ ys) i ≡ slice_get xs i
slice_get-append_left [] ys i h = absurd (omega arith)
slice_get-append_left (x ∷ xs) ys zero h = refl
slice_get-append_left (x ∷ xs) ys (suc i) h = slice_get-append_left xs ys i (omega arith)

slice_get-append_right : {X : Type 0} (xs ys : List X) (i : ℕ) → slice_get (xs ++ ys) (length xs + i) ≡ slice_get ys i
slice_get-append_right [] ys i = let none : 0 + i ≡ i = omega arith in ap (slice_get ys) none
slice_get-append_right (x ∷ xs) ys i =
    let next : suc (length xs) + i ≡ suc (length xs + i) = omega arith in
    ap (slice_get (x ∷ (xs ++ ys))) next ∙ slice_get-append_right xs ys i

-- what stands at a place
abbrev pub seen_at : List (Option ℕ) → ℕ → Option ℕ
seen_at seen p = option_and_then (λ s. s) (slice_get seen p)

-- what a cell tells is what is shown at its point
abbrev pub Tells : Level → Grid → ℕ → ℕ → Option ℕ → Type 0
Tells level grid i j o = (s : ℕ) → (o ≡ Some s) ↔ IsShown level (cell_x grid i) (cell_y grid j) s

pub AddsRow-none : (level : Level) (grid : Grid) (j : ℕ) (before : List (Option ℕ)) → AddsRow level grid j 0 before before
AddsRow-none level grid j before = record {
  row = [];
  whole = record { long = refl; each = λ i s below. absurd (omega (arith, below)) };
  is = sym (append-nil before);
}

-- a cell more
pub AddsRow-more : (level : Level) (grid : Grid) (j n : ℕ) (before between after : List (Option ℕ)) (o : Option ℕ)
    → AddsRow level grid j n before between → Tells level grid n j o → after ≡ between ++ o ∷ []
    → AddsRow level grid j (n + 1) before after
AddsRow-more level grid j n before between after o old tells is =
    let last : slice_get (old.row ++ o ∷ []) (length old.row + 0) ≡ Some o = slice_get-append_right old.row (o ∷ []) 0 in
    record {
      row = old.row ++ o ∷ [];
      whole = record {
        long = omega (arith, length-append old.row (o ∷ []), old.whole.long);
        each = λ i s below. elim (cases_lt i n) [
          | inl less ↦
              rw (slice_get-append_left old.row (o ∷ []) i (omega (arith, less, old.whole.long))) (old.whole.each i s less)
          | inr more ↦
              let same : n ≡ i = omega (arith, below, more) in
              let at : length old.row + 0 ≡ i = omega (arith, old.whole.long, same) in
              let here : seen_at (old.row ++ o ∷ []) i ≡ o =
              ap (option_and_then (λ s. s)) (subst (λ p. slice_get (old.row ++ o ∷ []) p ≡ Some o) at last) in
              rw here (subst (λ k. (o ≡ Some s) ↔ IsShown level (cell_x grid k) (cell_y grid j) s) same (tells s))
        ];
      };
      is = is ∙ ap (λ xs. xs ++ o ∷ []) old.is ∙ append_assoc before old.row (o ∷ []);
    }

-- cells more that all tell the same
AddsRow-same : (level : Level) (grid : Grid) (j n k : ℕ) (before between : List (Option ℕ)) (o : Option ℕ)
    → ((i : ℕ) → n ≤ i → i < n + k → Tells level grid i j o) → AddsRow level grid j n before between
    → AddsRow level grid j (n + k) before (between ++ replicate k o)
AddsRow-same level grid j n zero before between o tells old =
    let none : n ≡ n + 0 = omega arith in
    subst (λ m. AddsRow level grid j m before (between ++ [])) none
    (subst (λ xs. AddsRow level grid j n before xs) (sym (append-nil between)) old)
AddsRow-same level grid j n (suc k) before between o tells old =
    let next : n + 1 + k ≡ n + suc k = omega arith in
    let one = AddsRow-more level grid j n before between (between ++ o ∷ []) o old (tells n (omega arith) (omega arith)) refl in
    let all = AddsRow-same level grid j (n + 1) k before (between ++ o ∷ []) o
    (λ i from below. tells i (omega (arith, from)) (omega (arith, below))) one in
    subst (λ m. AddsRow level grid j m before (between ++ o ∷ replicate k o)) next
    (subst (λ xs. AddsRow level grid j (n + 1 + k) before xs) (append_assoc between (o ∷ []) (replicate k o)) all)

pub GoesOn-same : (level : Level) (row : Row) (from end : ℕ) (o : Option ℕ) (old : List (Option ℕ)) → from ≤ end
    → ((i : ℕ) → from ≤ i → i < end → TellsCell level row i o) → GoesOn level row from end old (old ++ replicate (end - from) o)
GoesOn-same level row from end o old ordered tells before added =
    let to : from + (end - from) ≡ end = omega (arith, ordered) in
    subst (λ m. AddsRow level row.grid row.j m before (old ++ replicate (end - from) o)) to
    (AddsRow-same level row.grid row.j from (end - from) before old o
    (λ i after below. tells i after (omega (arith, below, ordered))) added)

-- the first n rows of cells
pub record AreRows (level : Level) (grid : Grid) (n : ℕ) (seen : List (Option ℕ)) : Type 0 where
  pub long : length seen ≡ n * columns_of grid
  pub each : (i j : ℕ) → i < columns_of grid → j < n → Tells level grid i j (seen_at seen (j * columns_of grid + i))

pub AreRows-none : (level : Level) (grid : Grid) → AreRows level grid 0 []
AreRows-none level grid = record { long = omega arith; each = λ i j column row. absurd (omega (arith, row)) }

place_below : (columns n i j : ℕ) → i < columns → j < n → j * columns + i < n * columns
place_below columns n i j column row =
    let all : (j + 1) * columns ≤ n * columns = mul-le-mul_right columns (omega (arith, row)) in
    omega (arith, column, all)

-- a row more
pub AreRows-more : (level : Level) (grid : Grid) (n : ℕ) (before after : List (Option ℕ))
    → AreRows level grid n before → AddsRow level grid n (columns_of grid) before after → AreRows level grid (n + 1) after
AreRows-more level grid n before after old more = record {
  long =
      let next : (n + 1) * columns_of grid ≡ n * columns_of grid + columns_of grid = omega arith in
      omega (arith, ap length more.is, length-append before more.row, more.whole.long, old.long, next);
  each = λ i j column row s. elim (cases_lt j n) [
    | inl less ↦
        rw (
          more.is,
          slice_get-append_left before more.row (j * columns_of grid + i)
              (omega (arith, old.long, place_below (columns_of grid) n i j column less)),
        )
        (old.each i j column less s)
    | inr past ↦
        let same : n ≡ j = omega (arith, row, past) in
        let at : length before + i ≡ j * columns_of grid + i = omega (arith, old.long, ap (λ k. k * columns_of grid) same) in
        let here : slice_get (before ++ more.row) (j * columns_of grid + i) ≡ slice_get more.row i =
        subst (λ p. slice_get (before ++ more.row) p ≡ slice_get more.row i) at (slice_get-append_right before more.row i) in
        rw (more.is, here)
        (subst (λ k. (seen_at more.row i ≡ Some s) ↔ IsShown level (cell_x grid i) (cell_y grid k) s) same (more.whole.each i s column))
  ];
}

-- all rows are the cells
pub AreCells-all : (level : Level) (cells : Cells) → IsWhole cells → AreRows level cells.grid (rows_of cells.grid) cells.shown
    → AreCells level cells
AreCells-all level cells whole rows = record {
  whole = whole;
  each = λ i j s column row. rw (lt-ltb i (columns_of cells.grid) column) (rows.each i j column row s);
}

-- what a cell within the grid shows, and that those outside show nothing
pub cell-inside : (cells : Cells) (i j : ℕ) → i < columns_of cells.grid
    → cell cells i j ≡ seen_at cells.shown (j * columns_of cells.grid + i)
cell-inside cells i j column = rw (lt-ltb i (columns_of cells.grid) column) refl

pub cell-beside : (cells : Cells) (i j : ℕ) → columns_of cells.grid ≤ i → cell cells i j ≡ None
cell-beside cells i j past = rw (le-ltb i (columns_of cells.grid) past) refl

pub cell-above : (cells : Cells) (i j : ℕ) → IsWhole cells → rows_of cells.grid ≤ j → cell cells i j ≡ None
cell-above cells i j whole past = elim (cases_lt i (columns_of cells.grid)) [
  | inl column ↦
      let all : rows_of cells.grid * columns_of cells.grid ≤ j * columns_of cells.grid =
      mul-le-mul_right (columns_of cells.grid) past in
      let none = slice_get_past cells.shown (j * columns_of cells.grid + i) (omega (arith, all, whole.long)) in
      cell-inside cells i j column ∙ ap (option_and_then (λ s. s)) none
  | inr beside ↦ cell-beside cells i j beside
]

-- and what is got of one within
pub cell-got : (cells : Cells) (columns i j : ℕ) (o : Option ℕ) → columns ≡ columns_of cells.grid → i < columns
    → slice_get cells.shown (j * columns + i) ≡ Some o → o ≡ cell cells i j
cell-got cells columns i j o wide column there =
    let at : slice_get cells.shown (j * columns_of cells.grid + i) ≡ Some o =
    subst (λ c. slice_get cells.shown (j * c + i) ≡ Some o) wide there in
    sym (cell-inside cells i j (omega (arith, column, wide)) ∙ ap (option_and_then (λ s. s)) at)

pub cell_place : (cells : Cells) (columns rows i j : ℕ) → IsWhole cells → columns ≡ columns_of cells.grid → rows ≡ rows_of cells.grid
    → i < columns → j < rows → j * columns + i < length cells.shown
cell_place cells columns rows i j whole wide high column row =
    let within = place_below columns rows i j column row in
    let all : rows * columns ≡ rows_of cells.grid * columns_of cells.grid = ap (λ a. a * columns) high ∙ ap (λ b. rows_of cells.grid * b) wide in
    omega (arith, within, all, whole.long)

-- and a whole row of them is there
pub row_place : (cells : Cells) (columns rows j : ℕ) → IsWhole cells → columns ≡ columns_of cells.grid → rows ≡ rows_of cells.grid
    → j < rows → j * columns + columns ≤ length cells.shown
row_place cells columns rows j whole wide high row =
    let within : j * columns + columns ≤ rows * columns = row_fits j columns rows columns row (omega arith) in
    let all : rows * columns ≡ rows_of cells.grid * columns_of cells.grid = ap (λ a. a * columns) high ∙ ap (λ b. rows_of cells.grid * b) wide in
    omega (arith, within, all, whole.long)
