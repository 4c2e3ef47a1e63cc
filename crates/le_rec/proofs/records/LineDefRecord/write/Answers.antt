use Rattle.std.proofs.Common.{refl, sym, ◌∙◌, arith, rules}
use Rattle.std.proofs.lemmas.Int.{to_z-of_z}
use Rattle.std.proofs.lemmas.List.{take_all}
use Rattle.std.specs.Prelude.{FitsSigned}
use Rattle.std.specs.Int.{w16}
use Rattle.le_rec.proofs.records.LineDefRecord.write.Goals as goal

pub returns : goal.returns
returns c =
    let v = c.args.self.now in
    let v1 : FitsSigned w16 v.v1 = search rules in
    let v2 : FitsSigned w16 v.v2 = search rules in
    let flags : FitsSigned w16 v.flags = search rules in
    let special : FitsSigned w16 v.special = search rules in
    let tag : FitsSigned w16 v.tag = search rules in
    let side0 : FitsSigned w16 v.side0 = search rules in
    let side1 : FitsSigned w16 v.side1 = search rules in
    let put_v1 = simp to_z-of_z at c.put_i16.ensures.front in
    let put_v2 = simp to_z-of_z at c.put_i16-2.ensures.front in
    let put_flags = simp to_z-of_z at c.put_i16-3.ensures.front in
    let put_special = simp to_z-of_z at c.put_i16-4.ensures.front in
    let put_tag = simp to_z-of_z at c.put_i16-5.ensures.front in
    let put_side0 = simp to_z-of_z at c.put_i16-6.ensures.front in
    let put_side1 = simp to_z-of_z at c.put_i16-7.ensures.front in
    sym (take_all 14 c.put_i16-7.new.bytes (omega arith))
    ∙ rw (put_side1, put_side0, put_tag, put_special, put_flags, put_v2, put_v1) refl
