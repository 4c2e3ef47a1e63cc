use Rattle.std.proofs.Common.{◌≡◌, FitsSigned, w32, rules, subst, arith}
use Rattle.std.proofs.lemmas.Int.{to_z-of_z}
use Rattle.map_cells.specs.Grid.{columns_of}
use Rattle.map_cells.specs.Cells.{AddsRow}
use Rattle.map_cells.proofs.CellLemmas.{AddsRow-none, AddsRow-more}
use Rattle.map_cells.proofs.cells.push_each.Goals as goal

pub loop-i-init : goal.loop-i-init
loop-i-init g c = AddsRow-none c.args.shown.now c.args.grid c.args.j c.args.seen.now

pub loop-i-preserved : goal.loop-i-preserved
loop-i-preserved g c =
    let x : FitsSigned w32 c.x.result = search rules in
    let y : FitsSigned w32 c.y.result = search rules in
    let told = simp to_z-of_z at c.at.ensures.sector in
    AddsRow-more c.args.shown.now c.args.grid c.args.j c.loop-i.i c.args.seen.now c.loop-i.seen c.push.new.self
    c.at.result c.loop-i.invariant (rw (c.x.ensures, c.y.ensures) at told) c.in_ok-push.ensures

pub returns : goal.returns
returns g c =
    let at : c.loop-i.i ≡ columns_of c.args.grid = omega (arith, c.columns-i-end.ensures.value) in
    subst (λ n. AddsRow c.args.shown.now c.args.grid c.args.j n c.args.seen.now c.loop-i.seen) at c.loop-i.invariant
