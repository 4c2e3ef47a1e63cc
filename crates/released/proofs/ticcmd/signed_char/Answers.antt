use Rattle.std.proofs.Common.{rules, ◌∙◌, sym, FitsSigned, w8}
use Rattle.std.proofs.lemmas.Int.{to_z-of_z}
use Rattle.released.proofs.TiccmdLemmas.{signed_char_is}
use Rattle.released.proofs.ticcmd.signed_char.Goals as goal

pub returns : goal.returns
returns c =
    let fits : FitsSigned w8 c.cast_signed.result = search rules in
    to_z-of_z w8 c.cast_signed.result fits
    ∙ c.cast_signed.ensures
    ∙ sym (signed_char_is c.args.byte c.ranges.byte.fits)
