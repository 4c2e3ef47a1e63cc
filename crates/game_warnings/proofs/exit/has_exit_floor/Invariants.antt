use Rattle.std.proofs.Common.{ℕ, ◌<◌}
use Rattle.std.specs.Prelude.{IsSomeAnd}
use Rattle.std.specs.List.{slice_get}
use Rattle.std.specs.Prelude.{IsTrue}
use Rattle.map_level.specs.Links.{sectors_of}
use Rattle.game_numbers.specs.Number.{is_one_of}
use Rattle.game_numbers.specs.SectorSpecials.{exit_floor}
use Rattle.game_warnings.proofs.exit.has_exit_floor.Given as goal

abbrev pub invariant-loop-s : goal.invariant-loop-s
invariant-loop-s l = (j : ℕ) → j < l.s → ¬ IsSomeAnd (slice_get (sectors_of l.level) j) (λ sector. IsTrue (is_one_of exit_floor sector.special))
