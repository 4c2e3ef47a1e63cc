use Rattle.std.proofs.Common.{◌<◌, ◌+◌, ℕ, ◌∙◌, ap, arith, rules, slice_index}
use Rattle.std.proofs.lemmas.Int.{to_z-of_z}
use Rattle.std.specs.Prelude.{FitsSigned}
use Rattle.std.specs.Int.{w16, cast_signed}
use Rattle.le_rec.proofs.NumberLemmas.{cast_signed-unsigned16, little_number2-slice}
use Rattle.le_rec.proofs.number.i16_at.Goals as goal

pub returns : goal.returns
returns c =
    let bytes = c.args.bytes.now in
    let at = c.args.at in
    let fits : FitsSigned w16 c.read_i16.result = search rules in
    let byte : (i : ℕ) → slice_index bytes i < 256 = λ i. omega (arith, c.type_inv.bytes i) in
    to_z-of_z w16 c.read_i16.result fits
    ∙ c.read_i16.ensures
    ∙ ap (cast_signed w16) (little_number2-slice bytes at)
    ∙ cast_signed-unsigned16 _ _ (byte at) (byte (at + 1))
