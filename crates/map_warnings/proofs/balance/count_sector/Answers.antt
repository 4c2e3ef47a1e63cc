use Rattle.std.proofs.Common.{◌≡◌, ◌+◌, ◌<◌, ◌∙◌, arith, get_or, length, rules}
use Rattle.std.proofs.lemmas.List.{get_or_default, length-set}
use Rattle.map_warnings.specs.KeyLinks.{IsLink}
use Rattle.map_warnings.specs.Balance.{of_sectors, sector_in, with_end}
use Rattle.map_warnings.proofs.BalanceLemmas.{counts_begin, counts_more, end_within}
use Rattle.map_warnings.proofs.LinkLemmas.{link_behind}
use Rattle.map_warnings.proofs.balance.count_sector.Goals as goal

pub loop-at-init : goal.loop-at-init
loop-at-init g c =
    let numbers = c.args.numbers.now in
    let firsts = c.args.links.now.firsts.items in
    let first : c.index.result.now ≡ get_or firsts c.args.sector 0 =
    c.index.ensures ∙ get_or_default firsts c.args.sector _ 0 c.requires.within in
    let link : IsLink sector_in numbers c.args.sector 0 c.index.result.now = rw first (c.requires.links.first c.args.sector c.requires.within) in
    record {
      within = link.within;
      here = link.here;
      long = search rules;
      left = counts_begin numbers c.args.counts.now c.args.sector c.index.result.now link c.requires.before;
    }

pub loop-at-preserved : goal.loop-at-preserved
loop-at-preserved g c =
    let numbers = c.args.numbers.now in
    let counts = c.loop-at.counts in
    let at = c.loop-at.at in
    let next = c.index-in-loop-at.result.now in
    let inside : at < length numbers = c.loop-at-test.true in
    let is : sector_in (get_or numbers at 0) ≡ c.args.sector = c.loop-at.invariant.here inside in
    let links = c.args.links.now in
    let link = link_behind sector_in numbers _ links.firsts.items links.next.items at next c.requires.links inside c.index-in-loop-at.ensures in
    let fits : c.end_in-end.result < length counts =
    end_within numbers counts c.args.counts.now at _ c.requires.ends c.loop-at.invariant.long inside c.end_in-end.ensures.value in
    let more : c.in-Some.count ≡ get_or counts c.end_in-end.result 0 + 1 = search rules in
    record {
      within = link.within;
      here = λ there. link.here there ∙ is;
      long = length-set counts c.end_in-end.result c.in-Some.count ∙ c.loop-at.invariant.long;
      left = counts_more numbers counts c.args.sector at next c.end_in-end.result c.in-Some.count
          (λ e. with_end e (of_sectors (c.args.sector + 1) numbers)) inside is link c.end_in-end.ensures.value fits more c.loop-at.invariant.left;
    }

pub bounds-counts-end : goal.bounds-counts-end
bounds-counts-end g c =
    end_within c.args.numbers.now c.loop-at.counts c.args.counts.now c.loop-at.at _ c.requires.ends c.loop-at.invariant.long c.loop-at-test.true
    c.end_in-end.ensures.value

pub bounds-counts-end-in-loop-at : goal.bounds-counts-end-in-loop-at
bounds-counts-end-in-loop-at g c =
    end_within c.args.numbers.now c.loop-at.counts c.args.counts.now c.loop-at.at _ c.requires.ends c.loop-at.invariant.long c.loop-at-test.true
    c.end_in-end.ensures.value

pub loop-at-smaller : goal.loop-at-smaller
loop-at-smaller g c =
    let links = c.args.links.now in
    let link = link_behind sector_in c.args.numbers.now _ links.firsts.items links.next.items c.loop-at.at _ c.requires.links c.loop-at-test.true
    c.index-in-loop-at.ensures in
    omega (arith, link.after, c.loop-at-test.true)
