use Rattle.std.proofs.Common.{ℕ, pos, rules}
use Rattle.map_warnings.specs.Starts.{IsOfKind, HasNone}
use Rattle.map_warnings.proofs.StartLemmas.{without_four}
use Rattle.map_warnings.proofs.starts.player_without_start.Goals as goal

pub returns-then-not-has_some-3-clause-some : goal.returns-then-not-has_some-3-clause-some
returns-then-not-has_some-3-clause-some c =
    let two : (k : ℕ) × IsOfKind c.args.level.now (pos 2) k = search rules in
    let three : (k : ℕ) × IsOfKind c.args.level.now (pos 3) k = search rules in
    let none : HasNone c.args.level.now (pos 4) = search rules in
    without_four c.args.level.now two three none
