use Rattle.wad_dir.specs.Entries.{names}
use Rattle.look_engines.proofs.engines.LevelsLemmas.{AreLabelsBelow}
use Rattle.look_engines.proofs.engines.levels.find_labels.Given as goal

abbrev pub invariant-entries : goal.invariant-entries
invariant-entries g l = AreLabelsBelow (names l.set) l.g l.labels.items
