use Rattle.std.proofs.Common.{ap, ◌∙◌}
use Rattle.std.specs.List.{flat_map}
use Rattle.le_rec.specs.Number.{signed_bytes32}
use Rattle.wad_page.proofs.LinedefsLemmas.{linedefs_more}
use Rattle.wad_page.proofs.linedefs.list_level.Goals as goal

pub loop-i-preserved : goal.loop-i-preserved
loop-i-preserved g c =
    linedefs_more c.args.level.now c.loop-i.i c.loop-i.list.items c.extend_from_slice.new.self.items c.bytes_of-row.result c.loop-i.invariant
    (c.bytes_of-row.ensures ∙ ap (flat_map signed_bytes32) c.numbers_of.ensures) c.in-Ok.ensures.items
