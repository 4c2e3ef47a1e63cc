use Rattle.std.proofs.Common.{ℕ, ◌<◌}
use Rattle.game_warnings.specs.Harm.{HasEffectAt}
use Rattle.game_warnings.proofs.effect_tag.has_line.Given as goal

abbrev pub invariant-loop-i : goal.invariant-loop-i
invariant-loop-i l = (j : ℕ) → j < l.i → ¬ HasEffectAt l.level l.effect j
