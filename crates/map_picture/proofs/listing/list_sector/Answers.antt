use Rattle.std.proofs.Common.{refl}
use Rattle.map_picture.proofs.ListingLemmas.{listed-more}
use Rattle.map_picture.specs.declared.sectors.SectorCells.{SectorCells}
use Rattle.map_picture.proofs.listing.list_sector.Goals as goal

pub returns-in_ok-push : goal.returns-in_ok-push
returns-in_ok-push g c =
    let one : SectorCells = record { number = c.args.sector; blocks = c.blocks-then-cells-gt0.result; cells = c.get-cells.result } in
    rw c.in_ok-push.ensures.items
    (listed-more c.args.groups.now c.args.counts.now c.args.sector c.args.list.now.items one c.requires.before refl
    c.if-cells-gt0.true c.get-cells.ensures c.blocks-then-cells-gt0.ensures)
