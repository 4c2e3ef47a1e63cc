use Rattle.std.proofs.Common.{◌∙◌, sym, subst, arith}
use Rattle.game_warnings.specs.Around.{IsAround}
use Rattle.game_warnings.proofs.AroundLemmas.{are_around_more}
use Rattle.game_warnings.proofs.SideLemmas.{back_within, not_in_front, within_some}
use Rattle.game_warnings.proofs.around.add_linedef.Goals as goal

pub returns : goal.returns
returns c =
    are_around_more c.args.level.now c.args.i c.sides_at-sides.result c.args.around.now c.add_front.new.around c.add_back.new.around
    c.sides_at-sides.ensures.at (c.add_back.auto.around ∙ c.add_front.auto.around) c.add_front.ensures.here c.add_front.ensures.others c.add_back.ensures.here
    c.add_back.ensures.others c.requires.before
