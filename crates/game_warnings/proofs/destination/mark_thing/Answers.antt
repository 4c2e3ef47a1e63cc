use Rattle.std.proofs.Common.{rules}
use Rattle.game_warnings.proofs.DestinationLemmas.{adds_destination, adds_no_destination, adds_nowhere}
use Rattle.game_warnings.proofs.destination.mark_thing.Goals as goal

pub returns-then-not-is_destination : goal.returns-then-not-is_destination
returns-then-not-is_destination c = adds_no_destination c.args.level.now c.args.thing.now c.args.tags.now (search rules)

pub returns-in_default : goal.returns-in_default
returns-in_default c = adds_nowhere c.args.level.now c.args.thing.now c.args.tags.now (rw c.requires.tree at c.in_default.ensures.none).none

pub returns : goal.returns
returns c =
    adds_destination c.args.level.now c.args.thing.now c.in-Some.sector c.args.tags.now c.mark_sector.new.tags (search rules)
    (rw c.requires.tree at c.in-Some.ensures.some).stands (rw c.requires.tree at c.in-Some.ensures.some).only c.mark_sector.ensures
