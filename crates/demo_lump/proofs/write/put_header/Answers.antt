use Rattle.std.proofs.Common.{◌≡◌, length, rules}
use Rattle.demo_lump.proofs.WritingLemmas.{IsHeader-written}
use Rattle.demo_lump.proofs.write.put_header.Goals as goal

pub returns : goal.returns
returns c =
    let long : length c.args.header.now.players ≡ 4 = search rules in
    rw c.copy_from_slice.ensures.after
    (IsHeader-written c.args.header.now long c.requires.version c.requires.players)
