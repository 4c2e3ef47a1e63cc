use Rattle.std.proofs.Common.{refl, sym, ◌∙◌, arith, rules}
use Rattle.std.proofs.lemmas.Int.{to_z-of_z}
use Rattle.std.proofs.lemmas.List.{take_all}
use Rattle.std.specs.Prelude.{FitsSigned}
use Rattle.std.specs.Int.{w16}
use Rattle.le_rec.proofs.records.SegRecord.write.Goals as goal

pub returns : goal.returns
returns c =
    let v = c.args.self.now in
    let v1 : FitsSigned w16 v.v1 = search rules in
    let v2 : FitsSigned w16 v.v2 = search rules in
    let angle : FitsSigned w16 v.angle = search rules in
    let linedef : FitsSigned w16 v.linedef = search rules in
    let side : FitsSigned w16 v.side = search rules in
    let offset : FitsSigned w16 v.offset = search rules in
    let put_v1 = simp to_z-of_z at c.put_i16.ensures.front in
    let put_v2 = simp to_z-of_z at c.put_i16-2.ensures.front in
    let put_angle = simp to_z-of_z at c.put_i16-3.ensures.front in
    let put_linedef = simp to_z-of_z at c.put_i16-4.ensures.front in
    let put_side = simp to_z-of_z at c.put_i16-5.ensures.front in
    let put_offset = simp to_z-of_z at c.put_i16-6.ensures.front in
    sym (take_all 12 c.put_i16-6.new.bytes (omega arith))
    ∙ rw (put_offset, put_side, put_linedef, put_angle, put_v2, put_v1) refl
