use Rattle.wad_dir.specs.Entries.{names}
use Rattle.level_starts.specs.Holders.{AreHolders, AreOfLabels, HasLabelsBelow}
use Rattle.level_starts.proofs.holders.label_holders.Given as goal

abbrev pub invariant-entries : goal.invariant-entries
invariant-entries g l = record {
  holders_are : AreHolders (names l.set) 0 l.holders;
  labels : HasLabelsBelow (names l.set) l.g l.holders;
  alone : AreOfLabels (names l.set) l.holders;
}
