use Rattle.wadlook_c.proofs.find.found.Goals as goal

pub returns-in-Some-lump_at-clause-ok : goal.returns-in-Some-lump_at-clause-ok
returns-in-Some-lump_at-clause-ok c =
    let told = c.in-Some-lump_at.ensures.some c.args.wad.now c.in_ok-set.ensures.ok in
    record {
      files = c.in_ok-set.set;
      read = c.in_ok-set.ensures.ok;
      named = c.in-Some.named;
      wins = rw c.query.ensures at c.in-Some.ensures.some;
      number = told.0;
      lump = told.1;
    }
