use Rattle.map_warnings.proofs.resources.textures_of.Goals as goal

pub returns-in-None : goal.returns-in-None
returns-in-None g c = λ has. c.in-None.ensures.none has.0 has.1
