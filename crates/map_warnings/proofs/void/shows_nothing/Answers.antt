use Rattle.std.proofs.Common.{rules, ◌≡◌, None}
use Rattle.std.specs.Prelude.{◌↔◌, FitsSigned, IsTrue}
use Rattle.std.specs.Int.{w32}
use Rattle.std.proofs.lemmas.Int.{to_z-of_z}
use Rattle.map_geo.specs.Point.{IsInRange}
use Rattle.map_warnings.proofs.void.shows_nothing.Goals as goal

pub returns : goal.returns
returns g c =
    let column : FitsSigned w32 c.args.x = search rules in
    let row : FitsSigned w32 c.args.y = search rules in
    let none = simp to_z-of_z at c.at.ensures.none in
    let some = simp to_z-of_z at c.new.ensures.some in
    let there : IsInRange c.args.x × IsInRange c.args.y = some.0 (search rules) in
    let unseen : IsTrue c.is_none-2.result ↔ (c.at.result ≡ None) = search rules in (
      λ t. record { column = there.0; row = there.1; none = none.0 (unseen.0 t) },
      λ p. unseen.1 (none.1 p.none),
    )
