use Rattle.std.proofs.Common.{refl, sym, ◌∙◌, arith, rules}
use Rattle.std.proofs.lemmas.Int.{to_z-of_z}
use Rattle.std.proofs.lemmas.List.{take_all}
use Rattle.std.specs.Prelude.{FitsSigned}
use Rattle.std.specs.Int.{w16}
use Rattle.le_rec.proofs.records.SectorRecord.write.Goals as goal

pub returns : goal.returns
returns c =
    let v = c.args.self.now in
    let floor : FitsSigned w16 v.floor = search rules in
    let ceiling : FitsSigned w16 v.ceiling = search rules in
    let light : FitsSigned w16 v.light = search rules in
    let special : FitsSigned w16 v.special = search rules in
    let tag : FitsSigned w16 v.tag = search rules in
    let put_floor = simp to_z-of_z at c.put_i16.ensures.front in
    let put_ceiling = simp to_z-of_z at c.put_i16-2.ensures.front in
    let put_light = simp to_z-of_z at c.put_i16-3.ensures.front in
    let put_special = simp to_z-of_z at c.put_i16-4.ensures.front in
    let put_tag = simp to_z-of_z at c.put_i16-5.ensures.front in
    sym (take_all 26 c.put_i16-5.new.bytes (omega arith))
    ∙ rw (
      put_tag,
      put_special,
      put_light,
      c.put_name-2.ensures.front,
      c.put_name.ensures.front,
      put_ceiling,
      put_floor,
    ) refl
