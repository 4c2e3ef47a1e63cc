use Rattle.demo_lump.proofs.PieceLemmas.{pieces_are_demo, pieces_are_refused}
use Rattle.demo_lump.proofs.laws.pieces_are_the_demo.Goals as goal

pub returns-clause-demo : goal.returns-clause-demo
returns-clause-demo c = pieces_are_demo

pub returns-clause-refused : goal.returns-clause-refused
returns-clause-refused c = pieces_are_refused
