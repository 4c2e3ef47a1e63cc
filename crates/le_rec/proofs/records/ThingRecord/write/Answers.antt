use Rattle.std.proofs.Common.{refl, sym, ◌∙◌, arith, rules}
use Rattle.std.proofs.lemmas.Int.{to_z-of_z}
use Rattle.std.proofs.lemmas.List.{take_all}
use Rattle.std.specs.Prelude.{FitsSigned}
use Rattle.std.specs.Int.{w16}
use Rattle.le_rec.proofs.records.ThingRecord.write.Goals as goal

pub returns : goal.returns
returns c =
    let v = c.args.self.now in
    let x : FitsSigned w16 v.x = search rules in
    let y : FitsSigned w16 v.y = search rules in
    let angle : FitsSigned w16 v.angle = search rules in
    let kind : FitsSigned w16 v.kind = search rules in
    let options : FitsSigned w16 v.options = search rules in
    let put_x = simp to_z-of_z at c.put_i16.ensures.front in
    let put_y = simp to_z-of_z at c.put_i16-2.ensures.front in
    let put_angle = simp to_z-of_z at c.put_i16-3.ensures.front in
    let put_kind = simp to_z-of_z at c.put_i16-4.ensures.front in
    let put_options = simp to_z-of_z at c.put_i16-5.ensures.front in
    sym (take_all 10 c.put_i16-5.new.bytes (omega arith))
    ∙ rw (put_options, put_kind, put_angle, put_y, put_x) refl
