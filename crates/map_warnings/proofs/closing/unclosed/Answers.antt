use Rattle.std.proofs.Common.{rules}
use Rattle.map_warnings.specs.RunNumbers.{AreRunNumbers}
use Rattle.map_warnings.proofs.ClosingLemmas.{in_order}
use Rattle.map_warnings.proofs.closing.unclosed.Goals as goal

pub tell_unclosed-requires : goal.tell_unclosed-requires
tell_unclosed-requires g c =
    let are : AreRunNumbers c.args.level.now c.sort_unstable.new.self.items =
    in_order c.args.level.now _ _ c.in_ok-numbers.ensures c.sort_unstable.ensures.permutation c.sort_unstable.ensures.sorted in
    search rules
