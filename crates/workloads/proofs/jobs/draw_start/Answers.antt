use Rattle.std.proofs.Common.{refl}
use Rattle.level_starts.specs.declared.format.Format.TheVariants.{Doom}
use Rattle.workloads.proofs.jobs.draw_start.Goals as goal

pub level_at-level-requires : goal.level_at-level-requires
level_at-level-requires c = (c.in-Doom.ensures Doom).0 refl
