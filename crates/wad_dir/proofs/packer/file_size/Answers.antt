use Rattle.std.proofs.Common.{length, ap, arith}
use Rattle.std.proofs.lemmas.List.{take_all}
use Rattle.wad_dir.specs.Packing.{NamedLump, lump_bytes}
use Rattle.wad_dir.proofs.PackingLemmas.{length-packed, length-lump_bytes_upto}
use Rattle.wad_dir.proofs.packer.file_size.Goals as goal
use Rattle.wad_dir.proofs.packer.file_size.Goals.{then-more-gt-MAX_BYTES-via-then-more-gt-MAX_BYTES, then-more-gt-MAX_BYTES-via-else-more-gt-MAX_BYTES+then-size-more-gt-MAX_BYTES}

pub returns-then-more-gt-MAX_BYTES-clause-none : goal.returns-then-more-gt-MAX_BYTES-clause-none
returns-then-more-gt-MAX_BYTES-clause-none c =
    let lumps = c.args.lumps.now in
    let whole = length-packed lumps in
    let upto =
    length-lump_bytes_upto lumps c.lump-item.result c.loop-lump.lump-index
    (omega arith) c.lump-item.is in
    let same = ap (λ (l : NamedLump). length l.bytes) c.lump.view_is in
    elim c.then-more-gt-MAX_BYTES.branch [
      | then-more-gt-MAX_BYTES-via-then-more-gt-MAX_BYTES w ↦
          omega (arith, whole, upto, same, c.loop-lump.invariant.0)
      | then-more-gt-MAX_BYTES-via-else-more-gt-MAX_BYTES+then-size-more-gt-MAX_BYTES w ↦
          omega (arith, whole, upto, same, c.loop-lump.invariant.0)
    ]

pub returns-clause-some : goal.returns-clause-some
returns-clause-some c =
    omega (
      arith,
      length-packed c.args.lumps.now,
      c.loop-lump.invariant.0,
      ap (λ lumps. length (lump_bytes lumps))
          (take_all c.loop-lump.lump-index c.args.lumps.now (omega arith)),
    )
