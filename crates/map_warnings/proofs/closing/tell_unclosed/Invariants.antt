use Rattle.std.proofs.Common.{◌≡◌}
use Rattle.map_warnings.specs.RunNumbers.{pair_bound}
use Rattle.map_warnings.specs.Warnings.{TellsBelow}
use Rattle.map_warnings.specs.Holds.{HoldsOf}
use Rattle.level_codes.specs.declared.code.WarningCode.TheVariants.{W1}
use Rattle.map_warnings.proofs.closing.tell_unclosed.Given as goal

abbrev pub invariant-loop-k : goal.invariant-loop-k
invariant-loop-k g l = record {
  below : TellsBelow (HoldsOf l.level W1) (pair_bound l.numbers l.k) l.told;
  most : l.told.most ≡ l.most;
}
