use Rattle.std.proofs.Common.{refl, sym, ◌∙◌, arith, rules}
use Rattle.std.proofs.lemmas.Int.{to_z-of_z}
use Rattle.std.proofs.lemmas.List.{take_all}
use Rattle.std.specs.Prelude.{FitsSigned}
use Rattle.std.specs.Int.{w32}
use Rattle.wad_dir.proofs.header.HeaderRecord.write.Goals as goal

pub returns : goal.returns
returns c =
    let v = c.args.self.now in
    let count : FitsSigned w32 v.count = search rules in
    let offset : FitsSigned w32 v.offset = search rules in
    let put_count = simp to_z-of_z at c.put_i32.ensures.front in
    let put_offset = simp to_z-of_z at c.put_i32-2.ensures.front in
    sym (take_all 12 c.put_i32-2.new.bytes (omega arith))
    ∙ rw (put_offset, put_count, c.put_magic.ensures.front) refl
