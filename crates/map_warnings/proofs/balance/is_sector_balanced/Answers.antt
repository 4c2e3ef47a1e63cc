use Rattle.std.proofs.Common.{◌≡◌, ◌+◌, ◌<◌, ◌∙◌, arith, get_or, length, rules}
use Rattle.std.proofs.lemmas.List.{drop_all, get_or_default}
use Rattle.std.proofs.lemmas.List.Elements.{All-nil}
use Rattle.map_warnings.specs.KeyLinks.{IsLink, of_key}
use Rattle.map_warnings.specs.Balance.{HasBalance, sector_in}
use Rattle.map_warnings.proofs.LinkLemmas.{rest_more}
use Rattle.map_warnings.proofs.balance.is_sector_balanced.Goals as goal

pub loop-at-preserved : goal.loop-at-preserved
loop-at-preserved g c =
    let numbers = c.args.numbers.now in
    let at = c.loop-at.at in
    let next = c.index-in-loop-at.result.now in
    let inside : at < length numbers = search rules in
    let is : sector_in (get_or numbers at 0) ≡ c.args.sector = c.loop-at.invariant.here inside in
    let behind : next ≡ get_or c.args.links.now.next.items at 0 =
    c.index-in-loop-at.ensures ∙ get_or_default c.args.links.now.next.items at _ 0 (omega (arith, inside, c.requires.links.long)) in
    let link : IsLink sector_in numbers (sector_in (get_or numbers at 0)) (at + 1) next = rw behind (c.requires.links.behind at (search rules) inside) in
    let own : HasBalance c.args.counts.now (get_or numbers at 0) = search rules in
    record {
      within = link.within;
      here = λ there. link.here there ∙ is;
      left = rest_more sector_in (HasBalance c.args.counts.now) numbers (of_key sector_in c.args.sector numbers) c.args.sector at next inside is link own c.loop-at.invariant.left;
    }

pub returns : goal.returns
returns g c = λ _.
    let numbers = c.args.numbers.now in
    c.loop-at.invariant.left (rw (drop_all c.loop-at.at numbers c.loop-at-test.false) (All-nil (HasBalance c.args.counts.now)))
