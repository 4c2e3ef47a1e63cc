use Rattle.game_warnings.proofs.SearchLemmas.{whole_higher}
use Rattle.game_warnings.proofs.around.higher_count.Goals as goal

pub returns : goal.returns
returns c = whole_higher c.args.level.now c.args.s c.around_at.result c.around_at.ensures
