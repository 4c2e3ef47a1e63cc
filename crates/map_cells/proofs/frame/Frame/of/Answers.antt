use Rattle.std.proofs.Common.{◌≡◌, length, ap, ◌∙◌, subst, arith}
use Rattle.le_rec.specs.Table.{Rows}
use Rattle.le_rec.specs.declared.records.LineDef.{LineDef}
use Rattle.map_cells.proofs.FrameLemmas.{Bounds, IsEndBelow, Bounds-none, Bounds-next, Bounds-all, Bounds-frame, Bounds-no_frame}
use Rattle.map_cells.specs.Ends.{IsEnd}
use Rattle.map_cells.proofs.frame.Frame.of.Goals as goal

pub loop-i-init : goal.loop-i-init
loop-i-init c = Bounds-none c.args.level.now

pub loop-i-preserved : goal.loop-i-preserved
loop-i-preserved c =
    rw (c.frame_with-frame.ensures, c.linedef_ends.ensures)
    (Bounds-next c.args.level.now c.loop-i.i c.loop-i.frame c.loop-i.invariant)

all_ends : (c : goal.After-loop-i) → Bounds (IsEnd c.args.level.now) c.loop-i.frame
all_ends c =
    let level = c.args.level.now in
    let many = c.len-i-end.ensures ∙ ap (λ (rows : Rows LineDef). length rows.records) c.linedefs.ensures.is in
    let at : c.loop-i.i ≡ length level.linedefs.records = omega (arith, many) in
    Bounds-all level c.loop-i.frame (subst (λ n. Bounds (IsEndBelow level n) c.loop-i.frame) at c.loop-i.invariant)

pub returns-clause-frame : goal.returns-clause-frame
returns-clause-frame c = Bounds-frame (IsEnd c.args.level.now) c.loop-i.frame (all_ends c)

pub returns-clause-none : goal.returns-clause-none
returns-clause-none c = Bounds-no_frame (IsEnd c.args.level.now) c.loop-i.frame (all_ends c)
