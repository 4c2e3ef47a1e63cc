use Rattle.std.proofs.Common.{refl, false}
use Rattle.game_warnings.proofs.FoundLemmas.{lump_refused}
use Rattle.game_warnings.proofs.patches.has_lump.Goals as goal

pub returns-in-Err : goal.returns-in-Err
returns-in-Err g c = (
  λ no. absurd (let gone = no in cc),
  λ there. absurd (lump_refused c.args.set.now c.args.g c.lump.result c.lump.ensures.no_such c.lump.ensures.outside _ c.in-Err.is there.0 there.1),
)
