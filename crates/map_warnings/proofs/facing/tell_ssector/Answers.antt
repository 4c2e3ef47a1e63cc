use Rattle.std.proofs.Common.{◌+◌, arith}
use Rattle.map_warnings.specs.Holds.{HoldsOf}
use Rattle.level_codes.specs.declared.code.WarningCode.TheVariants.{W5}
use Rattle.map_warnings.proofs.ToldLemmas.{told_past}
use Rattle.map_warnings.proofs.RankLemmas.{no_mismatched, mismatched_alone}
use Rattle.map_warnings.proofs.facing.tell_ssector.Goals as goal

pub returns-in_default-clause-told : goal.returns-in_default-clause-told
returns-in_default-clause-told g c =
    told_past (HoldsOf c.args.level.now W5) c.args.told.now c.args.t (c.args.t + 1) c.requires.below (omega arith)
    (no_mismatched c.args.level.now c.args.t c.in_default.ensures.none)

pub tell_where-requires-clause-alone : goal.tell_where-requires-clause-alone
tell_where-requires-clause-alone g c =
    mismatched_alone c.args.level.now c.args.t c.in-Some.faced.one c.in-Some.faced.other c.in-Some.ensures.some
