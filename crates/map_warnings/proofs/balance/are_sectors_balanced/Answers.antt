use Rattle.std.proofs.Common.{◌≡◌, ◌+◌, ◌<◌, ◌∙◌, inl, inr, length, arith, refl, rules}
use Rattle.std.specs.Prelude.{◌%◌, All, IsTrue}
use Rattle.std.proofs.lemmas.Bool.{cases_eq}
use Rattle.map_warnings.specs.KeyLinks.{of_key}
use Rattle.map_warnings.specs.Balance.{CountEnds, HasBalance, end_in, of_sectors, sector_in}
use Rattle.map_warnings.proofs.BalanceLemmas.{balance_all, balance_more, balance_none}
use Rattle.map_warnings.proofs.balance.are_sectors_balanced.Goals as goal

pub loop-sector-init : goal.loop-sector-init
loop-sector-init g c = record {
  long = refl;
  counts = λ e inside. c.requires.none e;
  even = balance_none c.args.numbers.now;
}

pub loop-sector-preserved : goal.loop-sector-preserved
loop-sector-preserved g c =
    let numbers = c.args.numbers.now in
    let counts = c.count_sector.new.counts in
    let s = c.loop-sector.sector in
    let long : length counts ≡ length c.args.counts.now = c.count_sector.ensures.long ∙ c.loop-sector.invariant.long in
    let told : CountEnds (of_sectors (s + 1) numbers) counts = search rules in
    let yes : IsTrue c.is_sector_balanced.result = search rules in
    let own : All (HasBalance counts) (of_key sector_in s numbers) = c.is_sector_balanced.ensures yes in
    let few : All (λ n. end_in n < length counts) numbers = rw long c.requires.ends in
    let pairs : length counts % 2 ≡ 0 = rw long c.requires.pairs in
    record {
      long = long;
      counts = told;
      even = λ t v below. elim (cases_eq t (s + 1)) [
        | inl same ↦ rw same (balance_more numbers counts s v pairs few told own (c.loop-sector.invariant.even s v (omega arith)))
        | inr other ↦ c.loop-sector.invariant.even t v (omega (arith, below, other))
      ];
    }

pub returns : goal.returns
returns g c = λ _. balance_all c.args.numbers.now c.args.sectors c.requires.sectors
    (λ s v below. c.loop-sector.invariant.even s v (omega (arith, below, c.loop-sector-test.false)))
