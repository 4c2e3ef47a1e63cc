use Rattle.map_warnings.proofs.unknown_flat.lacks_flat.Goals as goal

pub returns : goal.returns
returns g c = rw c.flat_of.ensures at c.names_no_flat.ensures
