use Rattle.std.proofs.lemmas.Result.{IfErr-weaker}
use Rattle.lens_engines.proofs.CutLemmas.{pack_refused, packed_cuts}
use Rattle.lens_engines.proofs.cut.pack_lumps.Goals as goal

pub returns-in-Ok-clause-ok : goal.returns-in-Ok-clause-ok
returns-in-Ok-clause-ok g c =
    packed_cuts c.args.set.now c.args.g c.in-Ok.packer c.pack.result c.in-Ok.ensures.ok c.pack.ensures.is c.pack.ensures.fits c.pack.ensures.holds

pub returns-in-Ok-clause-err : goal.returns-in-Ok-clause-err
returns-in-Ok-clause-err g c =
    IfErr-weaker c.pack.result _ _
    (λ fault refused. pack_refused c.args.set.now c.args.g c.args.many c.args.label.now c.in-Ok.packer fault c.requires.label c.requires.starts c.requires.belong
    c.in-Ok.ensures.ok refused)
    c.pack.ensures.err
