use Rattle.look_engines.proofs.opening.open_level.Goals as goal

pub returns-in-Ok-clause-ok : goal.returns-in-Ok-clause-ok
returns-in-Ok-clause-ok g c = record { files = c.in_ok-set.set; read = c.in_ok-set.ensures.ok; opened = rw c.query.ensures at c.in-Ok.ensures.level }

pub returns-clause-err : goal.returns-clause-err
returns-clause-err g c = (c.in_ok-set.set, c.in_ok-set.ensures.ok, rw c.query.ensures at c.in-Err.ensures.refused)
