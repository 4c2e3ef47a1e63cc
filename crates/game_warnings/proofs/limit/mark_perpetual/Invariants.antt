use Rattle.game_warnings.specs.Tags.{AreTags}
use Rattle.game_warnings.proofs.PerpetualLemmas.{PerpetualAt}
use Rattle.game_warnings.proofs.TagLemmas.{Below}
use Rattle.game_warnings.proofs.limit.mark_perpetual.Given as goal

abbrev pub invariant-loop-i : goal.invariant-loop-i
invariant-loop-i l = AreTags (Below (PerpetualAt l.level) l.i) l.tags
