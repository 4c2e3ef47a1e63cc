use Rattle.std.proofs.Common.{refl, rules}
use Rattle.map_sketch.proofs.numbers.links_numbers.Goals as goal

pub returns-in-Some : goal.returns-in-Some
returns-in-Some c = rw (c.side_number-front.ensures, c.side_number-back.ensures, ← c.ends_of.ensures, c.in-Some.is) (search rules)
