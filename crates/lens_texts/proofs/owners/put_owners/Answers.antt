use Rattle.std.proofs.Common.{◌≡◌, ◌+◌, ◌-◌, ◌∙◌, Some, arith, rules, FitsSigned, w16}
use Rattle.std.proofs.lemmas.Int.{to_z-of_z}
use Rattle.std.specs.List.{slice_get}
use Rattle.lens_texts.proofs.OwnersLemmas.{owner-more}
use Rattle.lens_texts.proofs.owners.put_owners.Goals as goal

pub linedefs-preserved : goal.linedefs-preserved
linedefs-preserved c =
    let level = c.args.level.now in
    let n = c.linedefs.l - 1 in
    let at : slice_get level.linedefs.records n ≡ Some c.at-linedef.result = rw (← c.linedefs-linedefs.ensures.is) c.at-linedef.ensures in
    let front : FitsSigned w16 c.at-linedef.result.side0 = search rules in
    let back : FitsSigned w16 c.at-linedef.result.side1 = search rules in
    let first = simp to_z-of_z at c.put_owner.ensures.put in
    let second = simp to_z-of_z at c.put_owner-in-linedefs.ensures.put in
    let next : n + 1 ≡ c.linedefs.l = omega arith in
    record {
      told = λ i. owner-more level i n c.at-linedef.result c.linedefs.owners c.put_owner.new.owners c.put_owner-in-linedefs.new.owners at (rw next (c.linedefs.invariant.told i)) first second;
      long = c.put_owner-in-linedefs.ensures.long ∙ c.put_owner.ensures.long ∙ c.linedefs.invariant.long;
    }
