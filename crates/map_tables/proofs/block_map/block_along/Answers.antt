use Rattle.std.proofs.Common.{◌≡◌, pos, ◌-ℤ◌, ◌≤ℤ◌, ◌<ℤ◌, arith, rules, to_z, of_z}
use Rattle.std.specs.Prelude.{FitsSigned}
use Rattle.std.specs.Int.{w16, w32}
use Rattle.std.proofs.lemmas.Int.{ints, to_z-of_z}
use Rattle.map_tables.proofs.FloorLemmas.{floor_holds, floor_only, quotient, count_of-le}
use Rattle.map_tables.proofs.block_map.block_along.Goals as goal
use Rattle.map_tables.proofs.block_map.block_along.Goals.{then-block-lt0-via-then-block-lt0, then-block-lt0-via-else-block-lt0+then-block-from}

pub returns-then-block-lt0-clause-none : goal.returns-then-block-lt0-clause-none
returns-then-block-lt0-clause-none c = λ k is.
    let fz : FitsSigned w32 c.args.z = search rules in
    let fo : FitsSigned w16 c.args.origin = search rules in
    let fd : FitsSigned w32 (c.args.z -ℤ c.args.origin) = search rules in
    let floor =
    quotient c.args.origin c.args.z c.from.result c.floor_blocks-block.result fo fz fd
    c.from.ensures c.floor_blocks-block.ensures in
    let block : c.floor_blocks-block.result ≡ pos k =
    floor_only c.args.origin c.args.z c.floor_blocks-block.result floor k is in
    elim c.then-block-lt0.branch [
      | then-block-lt0-via-then-block-lt0 w ↦
          let low : c.floor_blocks-block.result <ℤ pos 0 =
          search rules in absurd (omega (arith, ints, low, block))
      | then-block-lt0-via-else-block-lt0+then-block-from w ↦
          let high : c.args.blocks ≤ℤ c.floor_blocks-block.result =
          search rules in count_of-le c.args.blocks k (rw block at high)
    ]

pub returns-clause-some : goal.returns-clause-some
returns-clause-some c =
    let fz : FitsSigned w32 c.args.z = search rules in
    let fo : FitsSigned w16 c.args.origin = search rules in
    let fd : FitsSigned w32 (c.args.z -ℤ c.args.origin) = search rules in
    let fb : FitsSigned w32 c.floor_blocks-block.result = search rules in
    let floor =
    quotient c.args.origin c.args.z c.from.result c.floor_blocks-block.result fo fz fd
    c.from.ensures c.floor_blocks-block.ensures in
    let same : to_z w32 (of_z w32 c.floor_blocks-block.result) ≡ c.floor_blocks-block.result =
    to_z-of_z w32 c.floor_blocks-block.result fb in
    let above : pos 0 ≤ℤ c.floor_blocks-block.result = search rules in
    rw same (floor_holds c.args.origin c.args.z c.floor_blocks-block.result floor above)
