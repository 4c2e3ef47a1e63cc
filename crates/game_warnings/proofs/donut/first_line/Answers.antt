use Rattle.game_warnings.proofs.donut.first_line.Goals as goal

pub returns : goal.returns
returns c = c.around_at.ensures.lines.first
