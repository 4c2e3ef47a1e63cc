use Rattle.wad_dir.specs.Entries.{names}
use Rattle.level_starts.specs.Holders.{AreHolders, HasNames}
use Rattle.level_starts.proofs.holders.move_to_last.Given as goal

abbrev pub invariant-entries : goal.invariant-entries
invariant-entries g l = record {
  holders_are : AreHolders (names l.set) l.g l.holders;
  kept : HasNames l.fn.holders l.holders;
}
