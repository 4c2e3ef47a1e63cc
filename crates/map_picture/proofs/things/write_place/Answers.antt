use Rattle.map_picture.proofs.things.write_place.Goals as goal

pub returns : goal.returns
returns g c =
    let wrote = rw (c.as_bytes.ensures, c.prepend_place.ensures) at c.emit.ensures in
    wrote
