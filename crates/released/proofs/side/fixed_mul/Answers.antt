use Rattle.std.proofs.Common.{rules, FitsSigned, w32, w64, ◌*ℤ◌, ◌∙◌}
use Rattle.std.proofs.lemmas.Int.{to_z-of_z}
use Rattle.std.proofs.Math.Facts.{sfits_widen}
use lib.Signed.{shr_z}
use Rattle.released.proofs.SideCodeLemmas.{low_word, product_of_words, shr_fits}
use Rattle.released.proofs.side.fixed_mul.Goals as goal

pub returns : goal.returns
returns c =
    let a = c.ranges.a in
    let b = c.ranges.b in
    let a' : FitsSigned w64 c.args.a = sfits_widen tt a in
    let b' : FitsSigned w64 c.args.b = sfits_widen tt b in
    let result : FitsSigned w32 c.cast_signed.result = search rules in
    let product = product_of_words c.args.a c.args.b a b in
    let shifted = shr_fits w64 (c.args.a *ℤ c.args.b) 65536 product in
    let first = simp to_z-of_z at c.from.ensures in
    let second = simp to_z-of_z at c.from-2.ensures in
    let bits = simp to_z-of_z at (rw (first, second) at c.cast_unsigned.ensures) in
    to_z-of_z w32 c.cast_signed.result result
    ∙ rw bits at c.cast_signed.ensures
    ∙ low_word (shr_z (c.args.a *ℤ c.args.b) 65536) shifted
