use Rattle.std.proofs.Common.{refl, subst, sym, ◌∙◌}
use Rattle.std.proofs.lemmas.Result.{err_from_is_err_and}
use Rattle.atlas_page.proofs.LevelLemmas.{AddsRows-end, AddsRows-more, AddsRows-none}
use Rattle.atlas_page.specs.Levels.{AddsRows}
use Rattle.atlas_page.proofs.levels.push_rows.Goals as goal

pub levels-init : goal.levels-init
levels-init g c =
    rw (c.into_iter-g-iterator.ensures.into_iter_gives ∙ c.of-g-items.ensures)
    (record { of_set = refl; added = AddsRows-none c.args.origin.now c.args.set.now c.args.rows.now.items })

pub levels-preserved : goal.levels-preserved
levels-preserved g c =
    let next = rw c.levels.invariant.of_set at c.in-Some.ensures.steps.0 in
    let more = AddsRows-more c.args.origin.now c.args.set.now c.levels.g-iterator.from c.in-Some.g c.args.rows.now.items c.levels.rows.items c.push_row.new.rows.items
    c.levels.invariant.added next c.in_ok-push_row.ensures.added in
    rw c.in-Some.ensures.steps.1 (record { of_set = c.levels.invariant.of_set; added = more })

pub returns-in_err-push_row-clause-some : goal.returns-in_err-push_row-clause-some
returns-in_err-push_row-clause-some g c =
    let p = err_from_is_err_and c.from_residual.result c.from_residual.ensures.1 in
    let next = rw c.levels.invariant.of_set at c.in-Some.ensures.steps.0 in
    let some = subst (AddsRows c.args.origin.now c.args.set.now c.levels.g-iterator.from c.args.rows.now.items) (sym c.in_err-push_row.ensures.kept) c.levels.invariant.added in
    rw p.1 (record { end = c.levels.g-iterator.from; added = some; g = c.in-Some.g; next = next })

pub returns-clause-all : goal.returns-clause-all
returns-clause-all g c =
    let none = rw c.levels.invariant.of_set at c.in-None.ensures.steps.0 in
    AddsRows-end c.args.origin.now c.args.set.now c.levels.g-iterator.from c.args.rows.now.items c.levels.rows.items c.levels.invariant.added none
