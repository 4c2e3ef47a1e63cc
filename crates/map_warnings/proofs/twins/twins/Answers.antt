use Rattle.std.proofs.Common.{rules}
use Rattle.map_warnings.specs.EndsKey.{AreApart, keys_of}
use Rattle.map_warnings.specs.Holds.{HoldsOf}
use Rattle.level_codes.specs.declared.code.WarningCode.TheVariants.{W6}
use Rattle.map_warnings.proofs.KeyLemmas.{apart_no_twin}
use Rattle.map_warnings.proofs.ToldLemmas.{told_nothing}
use Rattle.map_warnings.proofs.twins.twins.Goals as goal

pub returns-then-own-clause-told : goal.returns-then-own-clause-told
returns-then-own-clause-told g c =
    let apart : AreApart (keys_of c.args.level.now) = search rules in
    rw c.new.ensures (told_nothing (HoldsOf c.args.level.now W6) c.args.most (apart_no_twin c.args.level.now apart))
