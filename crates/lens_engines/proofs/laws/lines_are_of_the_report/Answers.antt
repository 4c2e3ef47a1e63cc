use Rattle.lens_engines.proofs.LineLemmas.{law_lines_are_of_the_report}
use Rattle.lens_engines.proofs.laws.lines_are_of_the_report.Goals as goal

pub returns : goal.returns
returns c = law_lines_are_of_the_report
