use Rattle.lens_reports.specs.Job.{closing_line}
use Rattle.lens_reports.proofs.JobLemmas.{rest_after}
use Rattle.lens_reports.proofs.run.write_totals_out.Goals as goal

pub returns-in-Ok : goal.returns-in-Ok
returns-in-Ok g c =
    rest_after g.O.Write.contents (closing_line c.args.asked c.args.files c.args.tally.now.totals) c.args.tally.now.verdict c.args.out.now c.write_last.new.out c.write_rest.new.out
    c.write_rest.result c.in-Ok.ensures.takes.whole c.write_rest.ensures
