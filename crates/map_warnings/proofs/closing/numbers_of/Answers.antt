use Rattle.std.proofs.Common.{◌≡◌, ◌≤◌, Some, length}
use Rattle.std.specs.List.{slice_get}
use Rattle.map_warnings.proofs.ClosingLemmas.{runs_more, runs_all}
use Rattle.map_warnings.proofs.closing.numbers_of.Goals as goal

pub linedefs-preserved : goal.linedefs-preserved
linedefs-preserved g c =
    let level = c.args.level.now in
    let at : slice_get level.linedefs.records c.linedefs.i ≡ Some c.at.result = rw (← c.linedefs-linedefs.ensures.is) c.at.ensures in
    runs_more level c.linedefs.i c.at.result c.linedefs.numbers.items _ at c.linedefs.invariant c.in_ok-push_linedef.ensures

pub returns : goal.returns
returns g c =
    let all : length c.args.level.now.linedefs.records ≤ c.linedefs.i = rw (← c.linedefs-linedefs.ensures.is, ← c.len-i-end.ensures) c.linedefs-test.false in
    runs_all c.args.level.now c.linedefs.i c.linedefs.numbers.items all c.linedefs.invariant
