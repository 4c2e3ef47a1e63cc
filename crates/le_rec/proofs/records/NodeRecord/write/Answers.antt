use Rattle.std.proofs.Common.{refl, sym, ◌∙◌, arith, rules}
use Rattle.std.proofs.lemmas.Int.{to_z-of_z}
use Rattle.std.proofs.lemmas.List.{take_all}
use Rattle.std.specs.Prelude.{FitsSigned}
use Rattle.std.specs.Int.{w16}
use Rattle.le_rec.proofs.records.NodeRecord.write.Goals as goal

pub returns : goal.returns
returns c =
    let v = c.args.self.now in
    let x : FitsSigned w16 v.x = search rules in
    let y : FitsSigned w16 v.y = search rules in
    let dx : FitsSigned w16 v.dx = search rules in
    let dy : FitsSigned w16 v.dy = search rules in
    let put_x = simp to_z-of_z at c.put_i16.ensures.front in
    let put_y = simp to_z-of_z at c.put_i16-2.ensures.front in
    let put_dx = simp to_z-of_z at c.put_i16-3.ensures.front in
    let put_dy = simp to_z-of_z at c.put_i16-4.ensures.front in
    sym (take_all 28 c.put_u16-2.new.bytes (omega arith))
    ∙ rw (
      c.put_u16-2.ensures.front,
      c.put_u16.ensures.front,
      c.put_box-2.ensures.front,
      c.put_box.ensures.front,
      put_dy,
      put_dx,
      put_y,
      put_x,
    ) refl
