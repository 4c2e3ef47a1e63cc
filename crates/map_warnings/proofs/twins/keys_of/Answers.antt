use Rattle.std.proofs.Common.{◌≡◌, ◌≤◌, Some, length, ◌∙◌}
use Rattle.std.specs.List.{slice_get}
use Rattle.map_warnings.proofs.KeyLemmas.{keys_all, keys_more}
use Rattle.map_warnings.proofs.twins.keys_of.Goals as goal

pub linedefs-preserved : goal.linedefs-preserved
linedefs-preserved g c =
    let level = c.args.level.now in
    let at : slice_get level.linedefs.records c.linedefs.i ≡ Some c.at.result = rw (← c.linedefs-linedefs.ensures.is) c.at.ensures in
    keys_more level c.linedefs.i c.at.result c.linedefs.keys.items _ at c.linedefs.invariant c.in_ok-push_key.ensures

pub returns : goal.returns
returns g c =
    let all : length c.args.level.now.linedefs.records ≤ c.linedefs.i = rw (← c.linedefs-linedefs.ensures.is, ← c.len-i-end.ensures) c.linedefs-test.false in
    c.linedefs.invariant ∙ keys_all c.args.level.now c.linedefs.i all
