use Rattle.std.proofs.Common.{get_or, ap}
use Rattle.map_cells.proofs.GroupLemmas.{pushed-at}
use Rattle.map_cells.proofs.groups.push_block.Goals as goal

pub returns-clause-pushes : goal.returns-clause-pushes
returns-clause-pushes g c =
    pushed-at (λ list. list.items) c.args.lists.now c.args.sector
    (get_or c.args.lists.now c.args.sector c.index-lists-sector.result) c.push.new.self c.args.block
    c.requires (ap (λ d. get_or c.args.lists.now c.args.sector d) c.index-lists-sector.is) c.in_ok-push.ensures.items
