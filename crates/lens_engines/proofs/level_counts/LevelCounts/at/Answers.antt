use Rattle.lens_engines.proofs.FoundLemmas.{counted_at}
use Rattle.lens_engines.proofs.level_counts.LevelCounts.at.Goals as goal

pub returns : goal.returns
returns g c =
    let judges = rw c.requires.known at c.in_ok-judged.ensures in
    let counts = rw c.requires.known at c.of-2.ensures in
    counted_at c.args.set.now c.args.judging c.args.g 0 c.level_at-level.result c.in_ok-judged.judged c.of-2.result c.level_at-level.ensures judges counts
