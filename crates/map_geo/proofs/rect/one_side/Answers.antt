use Rattle.map_geo.proofs.WholeLemmas.{some_of_four}
use Rattle.map_geo.proofs.rect.one_side.Goals as goal

pub returns : goal.returns
returns c = λ s. rw (c.then_some.ensures, c.eq.ensures, c.eq-2.ensures, c.eq-3.ensures) (some_of_four _ _ _ _ s)
