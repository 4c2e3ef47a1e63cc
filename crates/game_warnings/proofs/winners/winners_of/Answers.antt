use Rattle.std.proofs.Common.{◌≤◌, length, arith}
use Rattle.std.proofs.lemmas.List.{length-map}
use Rattle.wad_dir.specs.Entries.{joined, listed_name, names}
use Rattle.game_warnings.proofs.WinnerLemmas.{winners_all}
use Rattle.game_warnings.proofs.winners.winners_of.Goals as goal

pub returns : goal.returns
returns g c =
    let long = length-map (joined c.args.set.now) listed_name in
    winners_all (names c.args.set.now) c.loop-g.g c.loop-g.winners (omega (arith, long, c.loop-g-test.false, c.total-g-end.ensures)) c.loop-g.invariant
