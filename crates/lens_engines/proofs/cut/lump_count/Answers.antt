use Rattle.std.proofs.Common.{refl, arith}
use Rattle.level_starts.specs.declared.format.Format.TheVariants.{Incomplete, Udmf}
use Rattle.lens_engines.proofs.cut.lump_count.Goals as goal

pub returns-in-Incomplete-clause-err : goal.returns-in-Incomplete-clause-err
returns-in-Incomplete-clause-err g c = (c.in-Incomplete.ensures (Incomplete c.in-Incomplete.k)).0 refl

pub returns-in-Incomplete-clause-lump : goal.returns-in-Incomplete-clause-lump
returns-in-Incomplete-clause-lump g c =
    let is = (c.in-Incomplete.ensures (Incomplete c.in-Incomplete.k)).0 refl in
    (omega (arith, is.1.from), is.1.to)

pub returns-in-None-clause-err : goal.returns-in-None-clause-err
returns-in-None-clause-err g c = ((c.in-Udmf.ensures Udmf).0 refl, c.in-None.ensures.none)
