use Rattle.std.proofs.Common.{◌≡◌, ◌≤◌, Some, length}
use Rattle.std.specs.List.{slice_get}
use Rattle.map_level.specs.Links.{things_of}
use Rattle.game_warnings.specs.Destination.{IsDestination, LeadsTo}
use Rattle.game_warnings.proofs.DestinationLemmas.{all_destinations}
use Rattle.game_warnings.proofs.TagLemmas.{adds_at, marks_more, none_marked}
use Rattle.game_warnings.proofs.destination.mark_destinations.Goals as goal

pub loop-k-init : goal.loop-k-init
loop-k-init c = none_marked (IsDestination c.args.level.now) c.args.tags.now c.requires.long c.requires.none

pub loop-k-preserved : goal.loop-k-preserved
loop-k-preserved c =
    let level = c.args.level.now in
    let here : slice_get (things_of level) c.loop-k.k ≡ Some c.at.result = rw (← c.things-things.ensures.is) c.at.ensures in
    let adds =
    adds_at (things_of level) c.loop-k.k c.at.result (λ tag thing. LeadsTo level tag thing) c.loop-k.tags c.mark_thing.new.tags here c.mark_thing.ensures in
    marks_more (IsDestination level) c.loop-k.k c.loop-k.tags c.mark_thing.new.tags c.mark_thing.auto.tags c.loop-k.invariant adds

pub returns : goal.returns
returns c =
    let past : length (things_of c.args.level.now) ≤ c.loop-k.k = rw (← c.things-things.ensures.is, ← c.len-k-end.ensures) c.loop-k-test.false in
    all_destinations c.args.level.now c.loop-k.k c.loop-k.tags past c.loop-k.invariant
