use Rattle.std.proofs.Common.{sym, rules}
use Rattle.std.proofs.lemmas.Int.{to_z-of_z}
use Rattle.std.specs.Prelude.{FitsSigned}
use Rattle.std.specs.Int.{w16}
use Rattle.game_warnings.proofs.EffectLemmas.{adds_effect, adds_no_effect}
use Rattle.game_warnings.proofs.effect_tag.mark_linedef.Goals as goal

pub returns-then-not-has_effect : goal.returns-then-not-has_effect
returns-then-not-has_effect c =
    adds_no_effect c.args.effect c.args.linedef.now c.args.tags.now (sym c.if-not-has_effect.ensures)

pub returns : goal.returns
returns c =
    let fits : FitsSigned w16 c.args.linedef.now.tag = search rules in
    adds_effect c.args.effect c.args.linedef.now c.args.tags.now c.mark.new.marks (sym c.if-not-has_effect.ensures) (simp to_z-of_z at c.mark.ensures)
