-- What is shown at a point, by its one leaf.
use Rattle.std.proofs.Common.{◌≡◌, ◌↔◌, ◌∙◌, ℕ, ◌<◌, ℤ, Bool, true, false, Option, Some, None, IsTrue, refl, sym, subst}
use Rattle.std.proofs.lemmas.Bool.{false≢true}
use Rattle.std.specs.Bool.{then_some}
use Rattle.map_geo.specs.Point.{Point, IsInRange, point_at}
use Rattle.map_level.specs.Level.{Level}
use Rattle.map_level.specs.SectorOf.{sector_of}
use Rattle.map_tree.specs.Leaf.{IsLeaf}
use Rattle.map_tree.proofs.LawLemmas.{law_one_leaf}
use Rattle.map_tree.proofs.LeafLemmas.{one_leaf}
use Rattle.map_cells.specs.Cells.{TellsCell}
use Rattle.map_cells.specs.Grid.{cell_x, cell_y, columns_of}
use Rattle.map_cells.specs.Row.{IsRowInRange, Row, point_of}
use Rattle.map_cells.specs.Laws.{OneSectorShown}
use Rattle.map_cells.specs.Shown.{IsBehind, IsSegOf, IsShown}

-- no seg of ssector t has the point (x, y) behind it
abbrev pub IsBefore : Level → ℤ → ℤ → ℕ → Type 0
IsBefore level x y t = (i : ℕ) → IsSegOf level t i → ¬ IsBehind level i (point_at x y)

-- the sector of the leaf is shown where no seg has the point behind it, and nothing where one has
pub shown-told : (level : Level) (x y : ℤ) (t s : ℕ) (front : Bool) (result : Option ℕ)
    → IsInRange x → IsInRange y → IsLeaf level (point_at x y) t
    → ((u : ℕ) → IsLeaf level (point_at x y) u → u ≡ t) → sector_of level t ≡ Some s
    → (IsTrue front ↔ IsBefore level x y t) → result ≡ then_some front s
    → (r : ℕ) → (result ≡ Some r) ↔ IsShown level x y r
shown-told level x y t s true result column row leaf only sector before is r = (
  (λ told. record {
    column = column;
    row = row;
    t = t;
    leaf = leaf;
    front = before.0 refl;
    sector = sector ∙ sym is ∙ told;
  }),
  (λ shown.
      is ∙ sym sector ∙ subst (λ u. sector_of level u ≡ Some r) (only shown.t shown.leaf) shown.sector),
)
shown-told level x y t s false result column row leaf only sector before is r = (
  (λ told. cc),
  (λ shown.
      absurd (false≢true (before.1 (subst (IsBefore level x y) (only shown.t shown.leaf) shown.front)))),
)

-- what a cell of a row tells whose point has this leaf
pub front-tells : (level : Level) (row : Row) (t s i : ℕ) → IsRowInRange row → i < columns_of row.grid → IsLeaf level (point_of row i) t
    → sector_of level t ≡ Some s → IsBefore level (cell_x row.grid i) (cell_y row.grid row.j) t → TellsCell level row i (Some s)
front-tells level row t s i valid within leaf sector before =
    shown-told level (cell_x row.grid i) (cell_y row.grid row.j) t s true (Some s) (valid.columns i within) valid.height leaf
    (λ u one. one_leaf level (point_of row i) u t one leaf) sector ((λ _. before), (λ _. refl)) refl

pub void-tells : (level : Level) (row : Row) (t s i : ℕ) → IsRowInRange row → i < columns_of row.grid → IsLeaf level (point_of row i) t
    → sector_of level t ≡ Some s → ¬ IsBefore level (cell_x row.grid i) (cell_y row.grid row.j) t → TellsCell level row i None
void-tells level row t s i valid within leaf sector behind =
    shown-told level (cell_x row.grid i) (cell_y row.grid row.j) t s false None (valid.columns i within) valid.height leaf
    (λ u one. one_leaf level (point_of row i) u t one leaf) sector ((λ e. absurd (false≢true e)), (λ before. absurd (behind before))) refl

-- what is told exactly where something holds is none exactly where that never holds
pub none-told : (P : ℕ → Type 0) (result : Option ℕ) → ((s : ℕ) → (result ≡ Some s) ↔ P s)
    → (result ≡ None) ↔ ((s : ℕ) → ¬ P s)
none-told P None told = ((λ e s one. let none : None ≡ Some s = (told s).1 one in cc), (λ none. refl))
none-told P (Some s) told = ((λ e. cc), (λ none. absurd (none s ((told s).0 refl))))

-- the same by a tree that is the level's, for a point that is (x, y)
pub shown-by : (tree level seen : Level) (x y : ℤ) (point : Point) (t s : ℕ) (front : Bool) (result : Option ℕ)
    → tree ≡ level → level ≡ seen → point ≡ point_at x y → IsInRange x × IsInRange y
    → IsLeaf tree point t → ((u : ℕ) → IsLeaf tree point u → u ≡ t) → sector_of tree t ≡ Some s
    → (IsTrue front ↔ ((i : ℕ) → IsSegOf level t i → ¬ IsBehind level i point)) → result ≡ then_some front s
    → (r : ℕ) → (result ≡ Some r) ↔ IsShown seen x y r
shown-by tree level seen x y point t s front result own is_seen at range leaf only sector before is =
    let whole : tree ≡ seen = own ∙ is_seen in
    shown-told seen x y t s front result range.0 range.1
    (subst (λ (l : Level). IsLeaf l (point_at x y) t) whole (subst (λ (p : Point). IsLeaf tree p t) at leaf))
    (λ u one.
    only u (subst (λ (p : Point). IsLeaf tree p u) (sym at) (subst (λ (l : Level). IsLeaf l (point_at x y) u) (sym whole) one)))
    (subst (λ (l : Level). sector_of l t ≡ Some s) whole sector)
    (subst (λ (l : Level). IsTrue front ↔ IsBefore l x y t) is_seen
    (subst (λ (p : Point). IsTrue front ↔ ((i : ℕ) → IsSegOf level t i → ¬ IsBehind level i p)) at before))
    is

pub law_one_shown : OneSectorShown
law_one_shown level x y s r sound shown other =
    let leaf = law_one_leaf level (point_at x y) sound in
    let same : other.t ≡ shown.t = leaf.2 other.t other.leaf ∙ sym (leaf.2 shown.t shown.leaf) in
    let sector : sector_of level shown.t ≡ Some r = subst (λ t. sector_of level t ≡ Some r) same other.sector in
    let told : Some r ≡ Some s = sym sector ∙ shown.sector in
    cc
