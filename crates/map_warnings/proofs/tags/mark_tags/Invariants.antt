use Rattle.map_warnings.proofs.TagLemmas.{AreTagsBelow}
use Rattle.map_warnings.proofs.tags.mark_tags.Given as goal

abbrev pub invariant-sectors : goal.invariant-sectors
invariant-sectors l = AreTagsBelow l.level l.s l.tags
