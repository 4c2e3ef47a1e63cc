use Rattle.std.proofs.lemmas.Bool.{leb-true, le-leb}
use Rattle.map_tables.proofs.ListLemmas.{offset_past_reach}
use Rattle.map_tables.proofs.block_map.has_no_list.Goals as goal

pub returns-in-Some : goal.returns-in-Some
returns-in-Some c =
    let found = c.in-Some.ensures in
    let is =
    offset_past_reach c.args.words.now c.args.reach c.args.n c.in-Some.place c.requires
    found.some found.inside in
    ((λ past. is.0 (leb-true _ _ past)), (λ fault. le-leb _ _ (is.1 fault)))
