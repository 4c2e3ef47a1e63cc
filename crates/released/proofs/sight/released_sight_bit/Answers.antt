use Rattle.std.proofs.Common.{rules, FitsSigned, w32, ap, ◌∙◌}
use Rattle.std.proofs.lemmas.Int.{to_z-of_z}
use Rattle.released.specs.CheckSight.{released_bit}
use Rattle.released.proofs.SightLemmas.{shift_fits, bit_of_read_byte}
use Rattle.released.proofs.sight.released_sight_bit.Goals as goal

pub returns : goal.returns
returns c =
    let sectors = c.ranges.sectors in
    let s1 = c.ranges.s1 in
    let s2 = c.ranges.s2 in
    let pair : FitsSigned w32 c.pair_number-pair.result = search rules in
    let byte_number = shift_fits c.pair_number-pair.result 8 pair in
    let number = simp to_z-of_z at c.pair_number-pair.ensures in
    let there = simp to_z-of_z at c.in_ok-byte.ensures in
    let mask = simp to_z-of_z at c.mask.ensures in
    bit_of_read_byte c.args.bytes.now c.pair_number-pair.result c.from.result c.mask.result c.in_ok-byte.byte
    there c.from.ensures mask
    ∙ ap (released_bit c.args.bytes.now) number
