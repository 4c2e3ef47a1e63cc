use Rattle.std.proofs.Common.{◌≡◌, [], refl, rules}
use Rattle.wad_dir.proofs.OneDirectoryLemmas.{has_directory}
use Rattle.wad_dir.proofs.set.Set.one.Goals as goal

pub returns-in-Err-clause-first : goal.returns-in-Err-clause-first
returns-in-Err-clause-first g c n fault told =
    let number : n ≡ 1 = cc in
    let same : fault ≡ c.in-Err.fault = cc in
    record {
      bytes = c.args.bytes.now;
      earlier = [];
      later = [];
      joined = refl;
      number = number;
      read = search rules;
      refused = rw same ((c.in-Err.ensures.refused c.in-Err.fault).0 refl);
    }

pub returns-in_default-clause-memory : goal.returns-in_default-clause-memory
returns-in_default-clause-memory g c told =
    let read = (c.in-Ok.ensures.ok c.in-Ok.wad).0 refl in
    has_directory c.args.bytes.now c.in-Ok.wad read.0 read.1
