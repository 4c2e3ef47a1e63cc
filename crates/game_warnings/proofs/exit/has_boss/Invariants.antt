use Rattle.std.proofs.Common.{ℕ, ◌<◌}
use Rattle.std.specs.Prelude.{IsSomeAnd}
use Rattle.std.specs.List.{slice_get}
use Rattle.std.specs.Prelude.{IsTrue}
use Rattle.map_level.specs.Links.{things_of}
use Rattle.game_warnings.specs.Exit.{IsBoss}
use Rattle.game_warnings.specs.Skill.{is_placed}
use Rattle.game_warnings.proofs.exit.has_boss.Given as goal

abbrev pub invariant-loop-k : goal.invariant-loop-k
invariant-loop-k l = (j : ℕ) → j < l.k → ¬ IsSomeAnd (slice_get (things_of l.level) j) (λ thing. IsBoss l.level thing.kind × IsTrue (is_placed thing))
