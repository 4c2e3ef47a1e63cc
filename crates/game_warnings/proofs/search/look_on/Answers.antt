use Rattle.std.proofs.Common.{◌∙◌}
use Rattle.game_warnings.proofs.SearchLemmas.{are_searches_more}
use Rattle.game_warnings.proofs.search.look_on.Goals as goal

pub returns : goal.returns
returns c =
    are_searches_more c.args.level.now c.args.i c.sides_at-sides.result c.args.searches.now c.look_in_front.new.searches c.look_at_back.new.searches
    c.sides_at-sides.ensures.at (c.look_at_back.auto.searches ∙ c.look_in_front.auto.searches) c.look_in_front.ensures.here c.look_in_front.ensures.others
    c.look_at_back.ensures.here c.look_at_back.ensures.others c.requires.before
