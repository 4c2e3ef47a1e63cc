use Rattle.std.proofs.Common.{◌≡◌, ◌<◌, Some, get_or, ap, sym, subst, ◌∙◌}
use Rattle.map_level.specs.Level.{Level}
use Rattle.map_level.specs.SectorOf.{sector_of}
use Rattle.map_tree.specs.Child.{ssector_count}
use Rattle.map_tree.proofs.SectorListLemmas.{listed_sector}
use Rattle.map_tree.proofs.sector_tree.SectorTree.with_sector.Goals as goal

pub returns-clause-sector : goal.returns-clause-sector
returns-clause-sector g c =
    let level = c.self.inside.tree in
    let sectors = c.self.inside.sectors.items in
    let within = subst (λ (seen : Level). c.args.t < ssector_count seen) (sym c.self.view_is) c.requires in
    let at = c.index.ensures ∙ ap (λ n. get_or sectors n c.index.result.now) c.from.ensures in
    let listed = listed_sector level sectors c.args.t c.index.result.now c.index.result.now c.self.invariant.1 within at in
    subst (λ (seen : Level). sector_of seen c.args.t ≡ Some c.index.result.now) c.self.view_is listed
