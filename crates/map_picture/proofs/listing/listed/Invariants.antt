use Rattle.map_picture.specs.Listing.{AreListed}
use Rattle.map_picture.proofs.listing.listed.Given as goal

abbrev pub invariant-loop-sector : goal.invariant-loop-sector
invariant-loop-sector g l = AreListed l.groups l.counts l.sector l.list.items
