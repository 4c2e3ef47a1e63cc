use Rattle.map_tree.proofs.MiddleLemmas.{middle_is, middle_in, middle_read}
use Rattle.map_tree.proofs.row.middle.Goals as goal

pub returns-clause-middle : goal.returns-clause-middle
returns-clause-middle c =
    let h = c.requires in
    rw (middle_read c.args.low c.args.high h.low_in h.high_in) (middle_is c.args.low c.args.high h.low_in h.high_in)

pub returns-clause-in_range : goal.returns-clause-in_range
returns-clause-in_range c =
    let h = c.requires in
    rw (middle_read c.args.low c.args.high h.low_in h.high_in) (middle_in c.args.low c.args.high h.low_in h.high_in)
