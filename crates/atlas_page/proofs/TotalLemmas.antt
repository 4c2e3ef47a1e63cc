-- Totals as rows are added.
use Rattle.std.proofs.Common.{◌≡◌, ℕ, ◌+◌, ◌<◌, List, length, take, get_or, sym, ap, ◌∙◌}
use Rattle.std.proofs.lemmas.List.Sums.{fold_more}
use Rattle.atlas_page.specs.Rows.{totals_of_rows}
use Rattle.atlas_page.specs.declared.row.Row.{Row}
use Rattle.lens_engines.specs.Totals.{no_totals, totals_of, totals_with}
use Rattle.lens_engines.specs.declared.totals.Totals.{Totals}

-- one row more
pub summed : (rows : List Row) (i : ℕ) (row : Row) (sum new : Totals) → i < length rows → row ≡ get_or rows i row → sum ≡ totals_of_rows (take i rows)
    → new ≡ totals_with sum (totals_of row.found) → new ≡ totals_of_rows (take (i + 1) rows)
summed rows i row sum new below at so is =
    let step : Totals → Row → Totals = λ s r. totals_with s (totals_of r.found) in
    is ∙ ap (λ s. step s row) so ∙ ap (step (totals_of_rows (take i rows))) at ∙ sym (fold_more step no_totals rows i row below)
