use Rattle.std.proofs.lemmas.Result.{IfErr-weaker}
use Rattle.lens_engines.proofs.CutLemmas.{file_refused}
use Rattle.lens_engines.proofs.cut.cut_file.Goals as goal

pub returns-in-Ok-clause-err : goal.returns-in-Ok-clause-err
returns-in-Ok-clause-err g c =
    IfErr-weaker c.cut_entry.result _ _
    (λ fault refused. file_refused c.args.bytes.now c.in-Ok.set c.args.entry fault c.in-Ok.ensures.bytes c.in-Ok.ensures.read refused)
    c.cut_entry.ensures.err
