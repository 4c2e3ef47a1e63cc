use Rattle.map_tree.proofs.LawLemmas.{law_one_work, law_few_tests, law_few_pending}
use Rattle.map_tree.proofs.laws.one_work.Goals as goal

pub returns : goal.returns
returns c = record { one = law_one_work; few_tests = law_few_tests; few_pending = law_few_pending }
