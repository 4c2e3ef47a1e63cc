use Rattle.lens_engines.specs.declared.verdict.Verdict.TheVariants.{Clean}
use Rattle.lens_texts.specs.Explain.{explained_text}
use Rattle.lens_reports.proofs.JobLemmas.{rest_after}
use Rattle.lens_reports.proofs.explain.run_explain.Goals as goal

pub returns-in-Ok : goal.returns-in-Ok
returns-in-Ok g c =
    rest_after g.O.Write.contents (explained_text c.args.code) Clean c.args.out.now c.write_explained.new.out c.write_rest.new.out
    c.write_rest.result c.in-Ok.ensures.takes.whole c.write_rest.ensures
