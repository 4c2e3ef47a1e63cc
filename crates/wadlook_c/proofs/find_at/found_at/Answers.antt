use Rattle.wadlook_c.proofs.find_at.found_at.Goals as goal

pub returns-in-Some-clause-ok : goal.returns-in-Some-clause-ok
returns-in-Some-clause-ok c =
    let told = c.in-Some.ensures.some c.args.wad.now c.in_ok-set.ensures.ok in
    record { files = c.in_ok-set.set; read = c.in_ok-set.ensures.ok; number = told.0; lump = told.1 }
