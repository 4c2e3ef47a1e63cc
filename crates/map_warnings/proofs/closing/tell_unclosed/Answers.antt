use Rattle.std.proofs.Common.{rules}
use Rattle.map_warnings.specs.Holds.{HoldsOf}
use Rattle.map_warnings.specs.RunNumbers.{pair_bound}
use Rattle.level_codes.specs.declared.code.WarningCode.TheVariants.{W1}
use Rattle.map_warnings.proofs.ToldLemmas.{told_none, told_all}
use Rattle.map_warnings.proofs.ClosingLemmas.{unclosed_within}
use Rattle.map_warnings.proofs.closing.tell_unclosed.Goals as goal

pub loop-k-init : goal.loop-k-init
loop-k-init g c = rw c.new-told.ensures (record { below = told_none (HoldsOf c.args.level.now W1) c.args.most; most = search rules })

pub returns-clause-told : goal.returns-clause-told
returns-clause-told g c =
    told_all (HoldsOf c.args.level.now W1) c.loop-k.told (pair_bound c.args.numbers.now c.loop-k.k) c.loop-k.invariant.below
    (unclosed_within c.args.level.now c.args.numbers.now c.requires c.loop-k.k (search rules) (search rules))
