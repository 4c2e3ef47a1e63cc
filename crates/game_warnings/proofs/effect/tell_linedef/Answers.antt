use Rattle.std.proofs.Common.{◌+◌, ◌*◌, arith, rules}
use Rattle.game_warnings.specs.Holds.{HoldsOf}
use Rattle.game_warnings.specs.Special.{HasSpecial}
use Rattle.game_warnings.specs.declared.code.GameCode.TheVariants.{W17}
use Rattle.game_warnings.proofs.SpecialLemmas.{no_effect}
use Rattle.game_warnings.proofs.ToldLemmas.{told_past}
use Rattle.game_warnings.proofs.effect.tell_linedef.Goals as goal

pub returns-then-not-has_special-clause-told : goal.returns-then-not-has_special-clause-told
returns-then-not-has_special-clause-told g c =
    let none : ¬ HasSpecial c.args.level.now c.args.i = search rules in
    told_past (HoldsOf c.args.level.now W17) c.args.told.now (c.args.i * 6) (c.args.i * 6 + 6) c.requires.below (omega arith)
    (no_effect c.args.level.now c.args.i none)
