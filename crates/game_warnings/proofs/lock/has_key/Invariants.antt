use Rattle.std.proofs.Common.{◌≡◌, false, take}
use Rattle.std.specs.List.{list_any}
use Rattle.map_level.specs.Links.{things_of}
use Rattle.game_warnings.specs.Lock.{is_key}
use Rattle.game_warnings.proofs.lock.has_key.Given as goal

abbrev pub invariant-loop-k : goal.invariant-loop-k
invariant-loop-k l = list_any (is_key l.key l.skill) (take l.k (things_of l.level)) ≡ false
