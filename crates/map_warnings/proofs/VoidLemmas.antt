-- A thing stands in the void where a picture shows nothing.
use Rattle.std.proofs.Common.{◌≡◌, ◌↔◌, ℕ, Option, Some, refl, sym, subst}
use Rattle.std.specs.Prelude.{IsSomeAnd}
use Rattle.le_rec.specs.declared.records.Thing.{Thing}
use Rattle.level_codes.specs.Codes.{code_table}
use Rattle.map_cells.proofs.ShownLemmas.{none-told}
use Rattle.map_cells.specs.Cells.{cell}
use Rattle.map_cells.specs.Shown.{IsShown}
use Rattle.map_warnings.specs.Laws.{VoidIsAnEmptyCell, VoidShowsNoSector}
use Rattle.map_warnings.specs.Void.{ShowsNothing}

pub law_void_shows_no_sector : VoidShowsNoSector
unfolding code_table
law_void_shows_no_sector files level k thing shown sound at tells =
    let none = none-told (IsShown level thing.x thing.y) shown tells in
    let Stands = λ (o : Option Thing). IsSomeAnd o (λ (t : Thing). ShowsNothing level t.x t.y) in (
      (λ w. let void : ShowsNothing level thing.x thing.y = subst Stands at w.1.1 in (void.column, void.row, none.1 void.none)),
      (λ p. (sound, (refl, subst Stands (sym at) (record { column = p.0; row = p.1; none = none.0 p.2 })))),
    )

pub law_void_is_an_empty_cell : VoidIsAnEmptyCell
law_void_is_an_empty_cell files level cells k i j thing sound are at stands =
    let tells : (s : ℕ) → (cell cells i j ≡ Some s) ↔ IsShown level thing.x thing.y s =
    λ s. rw (stands.x, stands.y) (are.each i j s stands.column stands.row) in
    let law = law_void_shows_no_sector files level k thing (cell cells i j) sound at tells in (
      (λ w. (law.0 w).2),
      (λ none. law.1 (stands.x_in_range, stands.y_in_range, none)),
    )
