use Rattle.std.proofs.Common.{◌*◌, ◌-◌, length, arith}
use Rattle.wad_dir.proofs.PackingLemmas.{length-packed, packed_put}
use Rattle.wad_dir.proofs.packer.put_file.Goals as goal

pub overflow_sub-size : goal.overflow_sub-size
overflow_sub-size g c = omega (arith, length-packed c.args.lumps.now, c.requires.whole)

pub put_header-requires-clause-count_fits : goal.put_header-requires-clause-count_fits
put_header-requires-clause-count_fits g c =
    omega (arith, length-packed c.args.lumps.now, c.requires.whole, c.requires.most)

pub returns-clause-file : goal.returns-clause-file
returns-clause-file g c =
    packed_put c.args.lumps.now c.args.file.now.items _ _ _
    (c.args.size - length c.args.lumps.now * 16)
    (omega (arith, length-packed c.args.lumps.now, c.requires.whole))
    c.put_header.ensures.header c.put_lumps.ensures.lumps c.put_entries.ensures.entries

pub put_entries-requires-clause-room : goal.put_entries-requires-clause-room
put_entries-requires-clause-room g c =
    omega (arith, length-packed c.args.lumps.now, c.requires.whole)
