use Rattle.std.proofs.Common.{refl, rules}
use Rattle.std.specs.Prelude.{FitsSigned}
use Rattle.std.specs.Int.{w32}
use Rattle.std.proofs.lemmas.Int.{to_z-of_z}
use Rattle.game_warnings.proofs.DestinationLemmas.{stands_by, stands_once}
use Rattle.game_warnings.proofs.destination.sector_at.Goals as goal

pub returns-clause-some : goal.returns-clause-some
returns-clause-some c =
    let column : FitsSigned w32 c.args.x = search rules in
    let row : FitsSigned w32 c.args.y = search rules in
    let inside = simp to_z-of_z at (c.in_ok-point.ensures.some.0 refl) in
    let at = simp to_z-of_z at c.in_ok-point.ensures.value in
    let leaf = c.leaf-ssector.ensures in
    let ssector = c.leaf-ssector.result.0 in
    let sector = c.sector.ensures ssector leaf.leaf in
    record {
      stands = stands_by c.args.tree.now c.args.x c.args.y c.in_ok-point.point ssector c.sector.result inside.0 inside.1 at leaf.leaf sector;
      only = stands_once c.args.tree.now c.args.x c.args.y c.in_ok-point.point ssector c.sector.result at leaf.only sector;
    }
