use Rattle.lens_engines.proofs.ReportLemmas.{law_counts_are_of_the_report}
use Rattle.lens_engines.proofs.laws.counts_are_of_the_report.Goals as goal

pub returns : goal.returns
returns c = law_counts_are_of_the_report
