use Rattle.std.proofs.Common.{FitsSigned, w16, w32, refl, rules}
use Rattle.std.proofs.lemmas.Int.{to_z-of_z}
use Rattle.map_picture.proofs.things.prepend_turn.Goals as goal

pub returns : goal.returns
returns c =
    let fits : FitsSigned w16 c.args.thing.now.angle = search rules in
    let turn = simp to_z-of_z at c.turn_of.ensures in
    let turn_fits : FitsSigned w32 c.turn_of.result = search rules in
    let number = simp to_z-of_z at c.prepend_number.ensures.text in
    rw (c.prepend_bytes-2.ensures.text, number, turn, c.prepend_bytes.ensures.text, c.requires) refl
