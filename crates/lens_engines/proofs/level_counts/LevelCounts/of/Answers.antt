use Rattle.std.proofs.Common.{refl, ap, ◌∙◌}
use Rattle.lens_engines.specs.Tables.{tables_of}
use Rattle.lens_engines.proofs.level_counts.LevelCounts.of.Goals as goal

pub returns : goal.returns
returns g c = record {
  tables = c.of.ensures ∙ ap tables_of c.level-level.ensures;
  counts = c.copied.ensures ∙ c.counts-counts.ensures;
  asked = refl;
  failing = rw (c.counts-counts.ensures, c.warned.ensures) at c.has_failing.ensures;
  unlooked = c.unlooked.ensures;
  unlisted = c.of-2.ensures;
  drawn = rw c.level-level.ensures at c.has_lines.ensures;
}
