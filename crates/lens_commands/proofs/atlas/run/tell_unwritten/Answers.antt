use Rattle.std.proofs.Common.{rules}
use Rattle.lens_commands.specs.AtlasTold.{folder_line, write_text}
use Rattle.lens_commands.proofs.ToldLemmas.{told_none}
use Rattle.lens_commands.proofs.atlas.run.tell_unwritten.Goals as goal

pub returns-else-not-failed : goal.returns-else-not-failed
returns-else-not-failed g c = told_none (g.E.Sink.state c.args.errors.now) (folder_line c.args.folder.now write_text) (search rules)
