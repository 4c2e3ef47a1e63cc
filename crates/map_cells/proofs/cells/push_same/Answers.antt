use Rattle.std.proofs.Common.{◌++◌, List, Option, ℕ, replicate, subst, sym, ap, ◌∙◌}
use Rattle.std.proofs.lemmas.Result.{on_ok_weaker}
use Rattle.map_cells.specs.Cells.{GoesOn}
use Rattle.map_cells.proofs.CellLemmas.{GoesOn-same}
use Rattle.map_cells.proofs.cells.push_same.Goals as goal

pub returns : goal.returns
returns g c =
    on_ok_weaker c.push_same.result (λ is.
    subst (λ (xs : List (Option ℕ)). GoesOn c.args.level.now c.args.row c.args.from c.args.end c.args.seen.now xs)
    (sym (is ∙ ap (λ n. c.args.seen.now ++ replicate n c.args.same) c.from.ensures))
    (GoesOn-same c.args.level.now c.args.row c.args.from c.args.end c.args.same c.args.seen.now c.requires.ordered c.requires.tells)) c.push_same.ensures
