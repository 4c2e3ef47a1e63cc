use Rattle.game_warnings.proofs.PatchLemmas.{AreThereBelow}
use Rattle.game_warnings.proofs.patches.patches_there.Given as goal

abbrev pub invariant-loop-m : goal.invariant-loop-m
invariant-loop-m g l = AreThereBelow l.set l.pnames l.m l.there.items
