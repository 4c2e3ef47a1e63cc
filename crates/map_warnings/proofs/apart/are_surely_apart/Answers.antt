use Rattle.std.proofs.Common.{◌∙◌, length, rules}
use Rattle.map_warnings.specs.Buckets.{bucket_in}
use Rattle.map_warnings.proofs.ApartLemmas.{all_same}
use Rattle.map_warnings.proofs.LinkLemmas.{links_none}
use Rattle.map_warnings.proofs.apart.are_surely_apart.Goals as goal

pub are_new-requires-clause-none : goal.are_new-requires-clause-none
are_new-requires-clause-none g c =
    let numbers = c.args.numbers.now in
    let firsts = c.deref_mut.result.now in
    links_none bucket_in numbers 4096 firsts c.deref_mut-2.result.now (search rules) (search rules)
    (all_same 4096 (length numbers) firsts (c.deref_mut.ensures.value ∙ c.in_ok-firsts.ensures.items_if_clones_equal (λ n same. same)))
