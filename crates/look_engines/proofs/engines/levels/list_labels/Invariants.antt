use Rattle.std.proofs.Common.{take}
use Rattle.wad_dir.specs.Entries.{names}
use Rattle.look_engines.proofs.engines.LevelsLemmas.{AreLevelsOf}
use Rattle.look_engines.proofs.engines.levels.list_labels.Given as goal

abbrev pub invariant-labels : goal.invariant-labels
invariant-labels g l = AreLevelsOf (names l.set) (take l.g-index l.labels) l.found.items
