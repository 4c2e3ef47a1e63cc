use Rattle.std.proofs.Common.{false}
use Rattle.std.proofs.lemmas.Result.{err_from_is_err_and}
use Rattle.map_tree.proofs.TouchedLemmas.{get_or-alike}
use Rattle.node_tree.proofs.marks.reached_places.Goals as goal

pub returns-in_err-marks : goal.returns-in_err-marks
returns-in_err-marks g c = rw (err_from_is_err_and c.from_residual.result c.from_residual.ensures.1).1 tt

pub returns-in_err-mark_reached : goal.returns-in_err-mark_reached
returns-in_err-mark_reached g c = rw (err_from_is_err_and c.from_residual-in_err-mark_reached.result c.from_residual-in_err-mark_reached.ensures.1).1 tt

pub mark_reached-requires-clause-none : goal.mark_reached-requires-clause-none
mark_reached-requires-clause-none g c = c.new.ensures.items

pub mark_reached-requires-clause-off : goal.mark_reached-requires-clause-off
mark_reached-requires-clause-off g c = λ k. rw (c.deref_mut.ensures.value, c.in_ok-marks.ensures.items_if_clones_equal (λ y same. same)) (get_or-alike _ k false)
