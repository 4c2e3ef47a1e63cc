use Rattle.game_warnings.proofs.around.around_at.Goals as goal

pub returns : goal.returns
returns c = c.requires.around.each c.args.s _ c.requires.within
