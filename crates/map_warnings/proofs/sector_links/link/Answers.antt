use Rattle.std.proofs.Common.{◌≡◌, ◌+◌, ◌-◌, ◌<◌, length, arith, rules, subst, sym}
use Rattle.map_warnings.specs.KeyLinks.{AreLinks}
use Rattle.map_warnings.specs.Balance.{sector_in}
use Rattle.map_warnings.proofs.LinkLemmas.{links_more}
use Rattle.map_warnings.proofs.sector_links.link.Goals as goal

pub loop-i-preserved : goal.loop-i-preserved
loop-i-preserved c =
    let numbers = c.args.numbers.now in
    let sectors = length c.args.firsts.now in
    let i = c.loop-i.i - 1 in
    let inside : i < length numbers = search rules in
    let few : c.sector_in-sector.result < sectors = rw c.sector_in-sector.ensures (c.requires.sectors i 0 inside) in
    let next : c.loop-i.i ≡ i + 1 = omega (arith, c.loop-i-test.true) in
    let before = subst (λ n. AreLinks sector_in numbers sectors n c.loop-i.firsts c.loop-i.next) next c.loop-i.invariant in
    links_more sector_in numbers sectors i c.sector_in-sector.result c.loop-i.firsts c.loop-i.next inside few (sym c.sector_in-sector.ensures) before
