use Rattle.std.proofs.Common.{arith, refl}
use Rattle.map_tables.proofs.block_map.list_of.Goals as goal

pub returns-then-place-reach-clause-no_end : goal.returns-then-place-reach-clause-no_end
returns-then-place-reach-clause-no_end c =
    let found = c.in-Some.ensures in (
      λ _. record {
        place = c.in-Some.place;
        offset = found.some;
        inside = found.inside;
        no_list =
            λ list is. let below = (c.requires c.in-Some.place).1 (list, is) in
            omega (arith, below);
      },
      λ _. refl,
    )
