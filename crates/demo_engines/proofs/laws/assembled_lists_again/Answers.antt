use Rattle.demo_engines.proofs.LawLemmas.{assembled_is_demo, lists_again}
use Rattle.demo_engines.proofs.laws.assembled_lists_again.Goals as goal

pub returns-clause-demo : goal.returns-clause-demo
returns-clause-demo c = assembled_is_demo

pub returns-clause-listing : goal.returns-clause-listing
returns-clause-listing c = lists_again
