use Rattle.std.proofs.Common.{◌≡◌, ℕ, List, ◌∷◌, [], ◌++◌, map, refl, ap, ◌∙◌, arith, subst}
use Rattle.std.proofs.lemmas.List.Elements.{All-push}
use Rattle.wad_dir.specs.Wad.{Wad, IsRead}
use Rattle.wad_dir.specs.Refusal.{RefusesWad}
use Rattle.wad_dir.proofs.SetLemmas.{files_push, first_refused}
use Rattle.wad_dir.proofs.set.read_files.Goals as goal

pub returns-in-Err-clause-refused : goal.returns-in-Err-clause-refused
returns-in-Err-clause-refused g c =
    let refused : RefusesWad c.as_bytes.result.now c.in-Err.fault =
    (c.in-Err.ensures.refused c.in-Err.fault).0 refl in
    first_refused g.F.AsBytes.bytes c.args.files.now c.index-files-i.result c.loop-i.i
    (omega arith) c.index-files-i.is
    c.loop-i.wads.items c.in-Err.fault c.loop-i.invariant.bytes_are c.loop-i.invariant.are_read
    (subst (λ (b : List ℕ). RefusesWad b c.in-Err.fault) c.as_bytes.ensures refused)

pub loop-i-preserved : goal.loop-i-preserved
loop-i-preserved g c =
    let file = c.index-files-i.result in
    let wad = c.in-Ok.wad in
    let read = (c.in-Ok.ensures.ok wad).0 refl in
    let items : c.push_reserved.new.self.items ≡ c.loop-i.wads.items ++ wad ∷ [] =
    c.push_reserved.ensures.items in
    record {
      bytes_are = ap (map (λ (f : Wad). f.bytes)) items
          ∙ files_push g.F.AsBytes.bytes c.args.files.now file c.loop-i.i
          (omega arith) c.index-files-i.is c.loop-i.wads.items wad c.loop-i.invariant.bytes_are
          (read.0 ∙ c.as_bytes.ensures);
      are_read =
          rw items (All-push IsRead c.loop-i.wads.items wad c.loop-i.invariant.are_read read.1);
      counted = omega arith;
      room = omega arith;
    }
