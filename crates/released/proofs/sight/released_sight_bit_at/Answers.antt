use Rattle.std.proofs.Common.{w32, arith, ◌∙◌}
use Rattle.std.proofs.lemmas.Int.{to_z_pos}
use Rattle.released.specs.CheckSight.{released_sight_bit}
use Rattle.released.proofs.SightLemmas.{released_bit_is_sight_bit}
use Rattle.released.proofs.sight.released_sight_bit_at.Goals as goal

pub returns-clause-released : goal.returns-clause-released
returns-clause-released c =
    let sectors = to_z_pos w32 c.args.sectors c.requires.sectors_fit in
    let a = to_z_pos w32 c.args.a c.requires.from_fits in
    let b = to_z_pos w32 c.args.b (omega (arith, c.requires.pair_fits)) in
    c.released_sight_bit.ensures
    ∙ (λ i. released_sight_bit c.args.bytes.now (sectors i) (a i) (b i))

pub returns-clause-defined : goal.returns-clause-defined
returns-clause-defined c =
    let sectors = to_z_pos w32 c.args.sectors c.requires.sectors_fit in
    let a = to_z_pos w32 c.args.a c.requires.from_fits in
    let b = to_z_pos w32 c.args.b (omega (arith, c.requires.pair_fits)) in
    c.released_sight_bit.ensures
    ∙ (λ i. released_sight_bit c.args.bytes.now (sectors i) (a i) (b i))
    ∙ released_bit_is_sight_bit c.args.bytes.now c.args.sectors c.args.a c.args.b c.requires.pair_fits
