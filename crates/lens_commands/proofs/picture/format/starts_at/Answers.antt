use Rattle.wad_dir.specs.Entries.{names}
use Rattle.lens_commands.proofs.FormatLemmas.{starts_by}
use Rattle.lens_commands.proofs.picture.format.starts_at.Goals as goal

pub returns-in-Some : goal.returns-in-Some
returns-in-Some g c = starts_by (names c.args.set.now) c.args.g c.in-Some.start c.in-Some.ensures.some
