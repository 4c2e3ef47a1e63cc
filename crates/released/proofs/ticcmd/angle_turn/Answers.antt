use Rattle.std.proofs.Common.{rules, ◌*◌, ◌%◌, ◌∙◌, ap, sym, to_z, FitsSigned}
use Rattle.std.specs.Int.{w16}
use Rattle.std.proofs.lemmas.Int.{to_z-of_z}
use Rattle.released.proofs.TiccmdLemmas.{angle_turn_is}
use Rattle.released.proofs.ticcmd.angle_turn.Goals as goal

pub returns : goal.returns
returns c =
    let fits : FitsSigned w16 c.cast_signed.result = search rules in
    to_z-of_z w16 c.cast_signed.result fits
    ∙ c.cast_signed.ensures
    ∙ ap (λ n. to_z w16 (n * 256 % 65536)) c.from.ensures
    ∙ sym (angle_turn_is c.args.byte c.ranges.byte.fits)
