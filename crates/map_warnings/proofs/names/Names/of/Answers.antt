use Rattle.std.proofs.lemmas.List.Sorted.{length_permutation}
use Rattle.map_warnings.proofs.NumberLemmas.{in_order, same_in_order}
use Rattle.map_warnings.proofs.names.Names.of.Goals as goal

pub invariant_of-result : goal.invariant_of-result
invariant_of-result g c = in_order c.sort_unstable.new.self.items c.sort_unstable.ensures.sorted

pub returns-clause-long : goal.returns-clause-long
returns-clause-long g c = length_permutation c.args.numbers.items c.sort_unstable.new.self.items c.sort_unstable.ensures.permutation

pub returns-clause-same : goal.returns-clause-same
returns-clause-same g c = same_in_order c.args.numbers.items c.sort_unstable.new.self.items c.sort_unstable.ensures.permutation
