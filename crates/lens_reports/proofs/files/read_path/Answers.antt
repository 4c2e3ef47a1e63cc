use Rattle.std.proofs.lemmas.Result.{IfErr-weaker}
use Rattle.lens_reports.proofs.FileLemmas.{answered_from_opened}
use Rattle.lens_reports.proofs.files.read_path.Goals as goal

pub returns-in-Ok-clause-answered : goal.returns-in-Ok-clause-answered
returns-in-Ok-clause-answered g c =
    IfErr-weaker c.read_input.result _ _
    (λ fault opened. answered_from_opened (g.S.Storage.refuses c.args.storage.now c.args.path.now) fault opened) c.read_input.ensures.opened
