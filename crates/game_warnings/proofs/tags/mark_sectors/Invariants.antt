use Rattle.game_warnings.specs.Tags.{AreTags, HasTag}
use Rattle.game_warnings.proofs.TagLemmas.{Below}
use Rattle.game_warnings.proofs.tags.mark_sectors.Given as goal

abbrev pub invariant-loop-s : goal.invariant-loop-s
invariant-loop-s l = AreTags (Below (HasTag l.level) l.s) l.marks
