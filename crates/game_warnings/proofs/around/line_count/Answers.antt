use Rattle.game_warnings.proofs.SearchLemmas.{whole_lines}
use Rattle.game_warnings.proofs.around.line_count.Goals as goal

pub returns : goal.returns
returns c = whole_lines c.args.level.now c.args.s c.around_at.result c.around_at.ensures
