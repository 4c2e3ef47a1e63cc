use Rattle.std.proofs.Common.{sym, rules}
use Rattle.std.proofs.lemmas.List.{append-nil}
use Rattle.map_sketch.specs.Numbers.{linedef_numbers}
use Rattle.map_sketch.proofs.RowLemmas.{rows_more}
use Rattle.map_sketch.proofs.numbers.push_linedefs.Goals as goal

pub loop-i-init : goal.loop-i-init
loop-i-init g c = sym (append-nil c.args.list.now.items)

pub loop-i-preserved : goal.loop-i-preserved
loop-i-preserved g c =
    rows_more (linedef_numbers c.args.sketch.now) c.loop-i.i c.args.list.now.items c.loop-i.list.items c.extend_from_slice.new.self.items c.links_numbers.result
    c.loop-i.invariant (search rules) c.in_ok-extend_from_slice.ensures.items
