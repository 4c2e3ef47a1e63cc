use Rattle.std.proofs.Common.{◌≡◌}
use Rattle.wad_dir.specs.Entries.{names}
use Rattle.atlas_page.specs.Levels.{AddsRows}
use Rattle.atlas_page.proofs.levels.push_rows.Given as goal

abbrev pub invariant-levels : goal.invariant-levels
invariant-levels g l = record {
  of_set : l.g-iterator.names ≡ names l.set;
  added : AddsRows l.origin l.set l.g-iterator.from l.fn.rows.items l.rows.items;
}
