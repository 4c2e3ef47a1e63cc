use Rattle.std.proofs.Common.{sym}
use Rattle.game_warnings.proofs.HarmLemmas.{place_known, place_put}
use Rattle.game_warnings.proofs.harm.add_sector.Goals as goal

pub returns-then-is_known : goal.returns-then-is_known
returns-then-is_known c =
    place_known c.args.level.now c.args.effect c.args.s c.tag_place-at.result c.tag_place-at.ensures.place c.args.harms.now (sym c.if-is_known.ensures) c.requires.before

pub returns : goal.returns
returns c =
    rw c.put.ensures
    (place_put c.args.level.now c.args.effect c.args.s c.tag_place-at.result c.tag_place-at.ensures.place c.args.harms.now c.harm_at.result (sym c.if-is_known.ensures)
    c.harm_at.ensures.some c.harm_at.ensures.none c.requires.before)
