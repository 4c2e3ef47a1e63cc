use Rattle.wadlook_c.proofs.QuestionLemmas.{counted_cells, too_many_cells}
use Rattle.wadlook_c.proofs.question.count_of.Goals as goal

pub returns-clause-some : goal.returns-clause-some
returns-clause-some c = counted_cells c.args.number c.cells_of.result c.new.result c.cells_of.ensures c.new.ensures

pub returns-clause-none : goal.returns-clause-none
returns-clause-none c = too_many_cells c.args.number c.cells_of.result c.new.result c.cells_of.ensures c.new.ensures
