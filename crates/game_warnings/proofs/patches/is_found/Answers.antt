use Rattle.le_rec.specs.Name.{query_of}
use Rattle.wad_dir.specs.Entries.{names}
use Rattle.game_warnings.proofs.FoundLemmas.{found_by_none, found_by_winner}
use Rattle.game_warnings.proofs.patches.is_found.Goals as goal

pub returns-in-Some : goal.returns-in-Some
returns-in-Some g c =
    let wins = rw c.query.ensures at (c.in-Some.ensures.some (names c.args.set.now) c.requires) in
    found_by_winner c.args.set.now (query_of c.args.name.now) c.in-Some.g c.has_lump.result wins c.has_lump.ensures

pub returns-in-None : goal.returns-in-None
returns-in-None g c =
    found_by_none c.args.set.now (query_of c.args.name.now) (rw c.query.ensures at (c.in-None.ensures.none (names c.args.set.now) c.requires))
