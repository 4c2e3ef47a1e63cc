use Rattle.map_level.specs.Reading.{linedef_under}
use Rattle.game_warnings.proofs.RankLemmas.{platforms_alone}
use Rattle.game_warnings.proofs.effect.tell_platforms.Goals as goal

pub tell_where-requires-clause-alone : goal.tell_where-requires-clause-alone
tell_where-requires-clause-alone g c =
    rw c.answering-platforms.ensures (platforms_alone c.args.level.now c.args.i (linedef_under c.args.level.now.reading c.args.linedef.now) c.requires.there)
