use Rattle.std.proofs.Common.{◌≡◌, ◌+◌, ◌-◌, ◌<◌, drop, length, arith, rules, subst, sym}
use Rattle.std.specs.Prelude.{IsTrue}
use Rattle.map_warnings.specs.Buckets.{bucket_in}
use Rattle.map_warnings.specs.EndsKey.{AreApart}
use Rattle.map_warnings.specs.KeyLinks.{AreLinks}
use Rattle.map_warnings.proofs.ApartLemmas.{apart_more, apart_none}
use Rattle.map_warnings.proofs.LinkLemmas.{links_more}
use Rattle.map_warnings.proofs.apart.are_new.Goals as goal

pub loop-i-init : goal.loop-i-init
loop-i-init c = record { links = c.requires.none; apart = apart_none c.args.numbers.now }

pub is_new-requires-clause-links : goal.is_new-requires-clause-links
is_new-requires-clause-links c =
    let next : c.loop-i.i ≡ c.loop-i.i - 1 + 1 = omega (arith, c.loop-i-test.true) in
    subst (λ n. AreLinks bucket_in c.args.numbers.now 4096 n c.loop-i.firsts c.loop-i.next) next c.loop-i.invariant.links

pub loop-i-preserved : goal.loop-i-preserved
loop-i-preserved c =
    let numbers = c.args.numbers.now in
    let i = c.loop-i.i - 1 in
    let bucket = c.bucket_of-bucket.result in
    let inside : i < length numbers = search rules in
    let next : c.loop-i.i ≡ i + 1 = omega (arith, c.loop-i-test.true) in
    let links = subst (λ n. AreLinks bucket_in numbers 4096 n c.loop-i.firsts c.loop-i.next) next c.loop-i.invariant.links in
    let apart = subst (λ n. AreApart (drop n numbers)) next c.loop-i.invariant.apart in
    let yes : IsTrue c.is_new.result = search rules in
    let own = sym c.bucket_of-bucket.ensures.value in
    record {
      links = links_more bucket_in numbers 4096 i bucket c.loop-i.firsts c.loop-i.next inside c.bucket_of-bucket.ensures.below own links;
      apart = apart_more bucket_in bucket i numbers inside own (c.is_new.ensures yes) apart;
    }

pub returns : goal.returns
returns c = λ _.
    let first : c.loop-i.i ≡ 0 = omega (arith, c.loop-i-test.false) in
    subst (λ n. AreApart (drop n c.args.numbers.now)) first c.loop-i.invariant.apart
