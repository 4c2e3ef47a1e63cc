use Rattle.std.proofs.Common.{◌∙◌, sym}
use Rattle.node_lumps.proofs.FirstLemmas.{length_counted, length_given}
use Rattle.node_lumps.proofs.ssectors.count_in.Goals as goal

pub returns-then-is_counted : goal.returns-then-is_counted
returns-then-is_counted c =
    length_counted c.args.format c.args.bytes.now (sym c.is_counted.ensures ∙ c.if-is_counted.true)

pub returns-else-is_counted : goal.returns-else-is_counted
returns-else-is_counted c =
    length_given c.args.format c.args.bytes.now (sym c.is_counted.ensures ∙ c.if-is_counted.false)
