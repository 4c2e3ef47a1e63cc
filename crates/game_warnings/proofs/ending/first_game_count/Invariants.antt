use Rattle.std.proofs.Common.{◌≡◌, ℕ, ◌<◌, false, get_or}
use Rattle.le_rec.specs.declared.records.Thing.{Thing}
use Rattle.map_level.specs.Links.{things_of}
use Rattle.game_numbers.specs.Kinds.{second_game}
use Rattle.game_numbers.specs.Number.{is_one_of}
use Rattle.game_warnings.proofs.ending.first_game_count.Given as goal

abbrev pub invariant-loop-k : goal.invariant-loop-k
invariant-loop-k l = (j : ℕ) (d : Thing) → j < l.k → is_one_of second_game (get_or (things_of l.level) j d).kind ≡ false
