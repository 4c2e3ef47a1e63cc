use Rattle.std.proofs.Common.{length, ap, arith}
use Rattle.wad_dir.specs.Packing.{NamedLump}
use Rattle.wad_dir.proofs.PackingLemmas.{length-lump_bytes_upto}
use Rattle.wad_dir.proofs.packer.put_lumps.Goals as goal

pub put_bytes-requires : goal.put_bytes-requires
put_bytes-requires g c =
    let upto =
    length-lump_bytes_upto c.args.lumps.now c.lump-item.result c.loop-lump.lump-index
    (omega arith) c.lump-item.is in
    record { room = omega (arith, upto, ap (λ (l : NamedLump). length l.bytes) c.lump.view_is) }
