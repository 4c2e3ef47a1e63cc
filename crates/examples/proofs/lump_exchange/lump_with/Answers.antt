use Rattle.examples.proofs.ExchangeLemmas.{lacks_lump}
use Rattle.examples.proofs.lump_exchange.lump_with.Goals as goal

pub returns-clause-refused : goal.returns-clause-refused
returns-clause-refused g c = lacks_lump _ _ c.args.i _ c.requires.there c.requires.within c.if-i-g.false c.lump.ensures.no_such c.lump.ensures.outside
