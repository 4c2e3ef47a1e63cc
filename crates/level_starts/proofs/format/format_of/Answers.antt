use Rattle.level_starts.proofs.FormatLemmas.{only_format}
use Rattle.level_starts.proofs.format.format_of.Goals as goal

pub returns : goal.returns
returns g c =
    only_format c.args.set.now c.args.g c.format_of_plain.result c.format_of_plain.ensures
