use Rattle.game_warnings.specs.Harm.{IsEffectTagAt}
use Rattle.game_warnings.specs.Tags.{AreTags}
use Rattle.game_warnings.proofs.TagLemmas.{Below}
use Rattle.game_warnings.proofs.effect_tag.mark_linedefs.Given as goal

abbrev pub invariant-loop-i : goal.invariant-loop-i
invariant-loop-i l = AreTags (Below (IsEffectTagAt l.level l.effect) l.i) l.tags
