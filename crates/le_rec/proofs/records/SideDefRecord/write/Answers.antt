use Rattle.std.proofs.Common.{refl, sym, ◌∙◌, arith, rules}
use Rattle.std.proofs.lemmas.Int.{to_z-of_z}
use Rattle.std.proofs.lemmas.List.{take_all}
use Rattle.std.specs.Prelude.{FitsSigned}
use Rattle.std.specs.Int.{w16}
use Rattle.le_rec.proofs.records.SideDefRecord.write.Goals as goal

pub returns : goal.returns
returns c =
    let v = c.args.self.now in
    let xoff : FitsSigned w16 v.xoff = search rules in
    let yoff : FitsSigned w16 v.yoff = search rules in
    let sector : FitsSigned w16 v.sector = search rules in
    let put_xoff = simp to_z-of_z at c.put_i16.ensures.front in
    let put_yoff = simp to_z-of_z at c.put_i16-2.ensures.front in
    let put_sector = simp to_z-of_z at c.put_i16-3.ensures.front in
    sym (take_all 30 c.put_i16-3.new.bytes (omega arith))
    ∙ rw (
      put_sector,
      c.put_name-3.ensures.front,
      c.put_name-2.ensures.front,
      c.put_name.ensures.front,
      put_yoff,
      put_xoff,
    ) refl
