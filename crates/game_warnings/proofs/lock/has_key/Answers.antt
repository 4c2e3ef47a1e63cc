use Rattle.std.proofs.Common.{◌≡◌, Some, sym}
use Rattle.std.specs.List.{slice_get}
use Rattle.map_level.specs.Links.{things_of}
use Rattle.game_warnings.specs.Lock.{is_key}
use Rattle.game_warnings.proofs.CountLemmas.{any_here, any_more}
use Rattle.game_warnings.proofs.lock.has_key.Goals as goal

pub returns-then-is_key : goal.returns-then-is_key
returns-then-is_key c =
    let here : slice_get (things_of c.args.level.now) c.loop-k.k ≡ Some c.at.result = rw (← c.things-things.ensures.is) c.at.ensures in
    sym (any_here (is_key c.args.key c.args.skill) (things_of c.args.level.now) c.loop-k.k c.at.result here (sym c.if-is_key.ensures))

pub loop-k-preserved : goal.loop-k-preserved
loop-k-preserved c =
    let here : slice_get (things_of c.args.level.now) c.loop-k.k ≡ Some c.at.result = rw (← c.things-things.ensures.is) c.at.ensures in
    any_more (is_key c.args.key c.args.skill) (things_of c.args.level.now) c.loop-k.k c.at.result here (sym c.if-is_key.ensures) c.loop-k.invariant
