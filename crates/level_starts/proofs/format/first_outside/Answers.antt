use Rattle.std.proofs.Common.{rules, ◌<◌, ◌+◌, length, arith}
use Rattle.wad_dir.specs.Entries.{joined}
use Rattle.level_starts.proofs.FormatLemmas.{none_where_refused, there_more}
use Rattle.level_starts.proofs.format.first_outside.Goals as goal

pub returns-then-is_err-clause-some : goal.returns-then-is_err-clause-some
returns-then-is_err-clause-some g c =
    let listed : c.args.g + c.loop-k.k < length (joined c.args.set.now) = omega arith in
    record {
      from = omega arith;
      to = omega arith;
      before = c.loop-k.invariant;
      listed = listed;
      refused =
          none_where_refused c.args.set.now (c.args.g + c.loop-k.k) c.lump.result
          (search rules) c.lump.ensures.no_such c.lump.ensures.outside listed;
    }

pub loop-k-preserved : goal.loop-k-preserved
loop-k-preserved g c =
    there_more c.args.set.now c.args.g c.loop-k.k c.lump.result (search rules)
    c.lump.ensures.ok c.loop-k.invariant
