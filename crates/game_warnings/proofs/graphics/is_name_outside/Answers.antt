use Rattle.wad_dir.specs.Entries.{names}
use Rattle.game_warnings.proofs.WinnerLemmas.{outside_is, outside_none}
use Rattle.game_warnings.proofs.graphics.is_name_outside.Goals as goal

pub returns-in-Some : goal.returns-in-Some
returns-in-Some g c =
    outside_is c.args.set.now c.args.name.now c.args.ends c.in-Some.g c.is_out.result c.requires.ends
    (c.in-Some.ensures.some (names c.args.set.now) c.requires.winners) c.is_out.ensures

pub returns-in-None : goal.returns-in-None
returns-in-None g c = outside_none c.args.set.now c.args.name.now (c.in-None.ensures.none (names c.args.set.now) c.requires.winners)
