use Rattle.game_warnings.specs.Destination.{IsDestination}
use Rattle.game_warnings.specs.Tags.{AreTags}
use Rattle.game_warnings.proofs.TagLemmas.{Below}
use Rattle.game_warnings.proofs.destination.mark_destinations.Given as goal

abbrev pub invariant-loop-k : goal.invariant-loop-k
invariant-loop-k l = AreTags (Below (IsDestination l.level) l.k) l.tags
