use Rattle.map_warnings.proofs.ClosingLemmas.{balanced_closed, few_ends, few_sectors}
use Rattle.map_warnings.proofs.closing.are_closed.Goals as goal

pub are_balanced-requires-clause-sectors : goal.are_balanced-requires-clause-sectors
are_balanced-requires-clause-sectors g c =
    rw (c.min-sectors.ensures, c.len.ensures, c.sectors.ensures.is) (few_sectors c.args.level.now c.args.numbers.now c.requires)

pub are_balanced-requires-clause-ends : goal.are_balanced-requires-clause-ends
are_balanced-requires-clause-ends g c =
    rw (c.min-vertexes.ensures, c.len-2.ensures, c.vertexes.ensures.is) (few_ends c.args.level.now c.args.numbers.now c.requires)

pub returns : goal.returns
returns g c = λ yes. balanced_closed c.args.level.now c.args.numbers.now c.requires (c.in-Ok.ensures yes)
