use Rattle.std.proofs.Common.{◌≡◌, ◌↔◌, ℕ, Some, refl}
use Rattle.std.proofs.lemmas.Int.{to_z-of_z}
use Rattle.map_cells.specs.Shown.{IsShown}
use Rattle.map_cells.proofs.ShownLemmas.{shown-by, none-told}
use Rattle.map_cells.proofs.shown.Shown.at.Goals as goal

told : (g : _) (c : goal.After-then_some g) (s : ℕ)
    → (c.then_some.result ≡ Some s) ↔ IsShown c.args.self.now c.args.x c.args.y s
told g c =
    let x = c.ranges.x in
    let y = c.ranges.y in
    let leaf = c.leaf-ssector.ensures in
    shown-by c.self.inside.tree c.self.inside.level.now c.args.self.now c.args.x c.args.y c.in_ok-point.point
    c.leaf-ssector.result.0 c.leaf-ssector.result.1 c.is_before_segs.result c.then_some.result
    c.self.invariant.1 c.self.view_is
    (simp to_z-of_z at c.in_ok-point.ensures.value) (simp to_z-of_z at (c.in_ok-point.ensures.some.0 refl))
    leaf.leaf leaf.only leaf.sector c.is_before_segs.ensures c.then_some.ensures

pub returns-clause-sector : goal.returns-clause-sector
returns-clause-sector g c = told g c

pub returns-clause-none : goal.returns-clause-none
returns-clause-none g c = none-told (IsShown c.args.self.now c.args.x c.args.y) c.then_some.result (told g c)
