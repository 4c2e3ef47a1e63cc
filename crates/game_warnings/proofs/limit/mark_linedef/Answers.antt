use Rattle.std.proofs.Common.{◌≡◌, true, false, sym, rules}
use Rattle.std.specs.Prelude.{FitsSigned}
use Rattle.std.specs.Int.{w16}
use Rattle.std.proofs.lemmas.Int.{to_z-of_z}
use Rattle.game_numbers.specs.Number.{is_one_of}
use Rattle.game_numbers.specs.Specials.{perpetual}
use Rattle.game_warnings.proofs.PerpetualLemmas.{adds_perpetual, adds_other}
use Rattle.game_warnings.proofs.limit.mark_linedef.Goals as goal

pub returns-then-not-is_perpetual : goal.returns-then-not-is_perpetual
returns-then-not-is_perpetual c =
    let fits : FitsSigned w16 c.args.linedef.now.special = search rules in
    let none : is_one_of perpetual c.args.linedef.now.special ≡ false = sym (simp to_z-of_z at c.if-not-is_perpetual.ensures) in
    adds_other c.args.linedef.now c.args.tags.now none

pub returns : goal.returns
returns c =
    let fits : FitsSigned w16 c.args.linedef.now.special = search rules in
    let tag : FitsSigned w16 c.args.linedef.now.tag = search rules in
    let some : is_one_of perpetual c.args.linedef.now.special ≡ true = sym (simp to_z-of_z at c.if-not-is_perpetual.ensures) in
    adds_perpetual c.args.linedef.now c.args.tags.now c.mark.new.marks some (simp to_z-of_z at c.mark.ensures)
