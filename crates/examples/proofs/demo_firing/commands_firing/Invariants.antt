use Rattle.std.proofs.Common.{◌≡◌, false, ◌-◌}
use Rattle.examples.proofs.FiringLemmas.{FiringSoFar}
use Rattle.demo_lump.specs.declared.intake.TheConstants.{MAX_READ}
use Rattle.examples.proofs.demo_firing.commands_firing.Given as goal

abbrev pub invariant-commands : goal.invariant-commands
invariant-commands g l = record {
  sound : (g.S.Source.state l.source).failed ≡ false;
  so_far : FiringSoFar (g.S.Source.state l.fn.source) (g.S.Source.state l.source) l.reader l.firing;
}

abbrev pub decreases-commands : goal.decreases-commands
decreases-commands g l = MAX_READ - l.reader.taken
