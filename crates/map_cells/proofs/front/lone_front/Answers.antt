use Rattle.std.proofs.Common.{ℕ, refl}
use Rattle.map_cells.specs.Row.{point_of}
use Rattle.map_cells.specs.Shown.{IsBehind, IsSegOf}
use Rattle.map_cells.proofs.FrontLemmas.{column_all, column_none}
use Rattle.map_cells.proofs.front.lone_front.Goals as goal

pub returns-then-is_before_segs : goal.returns-then-is_before_segs
returns-then-is_before_segs c =
    let told = rw c.point.ensures at c.if-is_before_segs.ensures in
    column_all (λ i. (k : ℕ) → IsSegOf c.args.level.now c.args.t k → ¬ IsBehind c.args.level.now k (point_of c.args.row i))
    c.args.span c.requires.one (told.0 refl)

pub returns-else-is_before_segs : goal.returns-else-is_before_segs
returns-else-is_before_segs c =
    let told = rw c.point.ensures at c.if-is_before_segs.ensures in
    column_none (λ i. (k : ℕ) → IsSegOf c.args.level.now c.args.t k → ¬ IsBehind c.args.level.now k (point_of c.args.row i))
    c.args.span c.requires.one (λ before. let yes = told.1 before in let f : ⊥ = cc in f)
