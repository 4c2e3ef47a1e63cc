use Rattle.std.proofs.Common.{refl, sym, ◌∙◌, arith, rules}
use Rattle.std.proofs.lemmas.Int.{to_z-of_z}
use Rattle.std.proofs.lemmas.List.{take_all}
use Rattle.std.specs.Prelude.{FitsSigned}
use Rattle.std.specs.Int.{w32}
use Rattle.le_rec.proofs.records.EntryRecord.write.Goals as goal

pub returns : goal.returns
returns c =
    let v = c.args.self.now in
    let filepos : FitsSigned w32 v.filepos = search rules in
    let size : FitsSigned w32 v.size = search rules in
    let put_filepos = simp to_z-of_z at c.put_i32.ensures.front in
    let put_size = simp to_z-of_z at c.put_i32-2.ensures.front in
    sym (take_all 16 c.put_name.new.bytes (omega arith))
    ∙ rw (c.put_name.ensures.front, put_size, put_filepos) refl
