use Rattle.map_tree.proofs.LawLemmas.{law_sectors, law_one_counting, law_counts}
use Rattle.map_tree.proofs.laws.plain_counts.Goals as goal

pub returns : goal.returns
returns c = record { told = law_sectors; one = law_one_counting; total = law_counts }
