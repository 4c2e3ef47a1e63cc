use Rattle.demo_listings.proofs.ComparedLemmas.{commands_told, front_agrees, front_told}
use Rattle.demo_listings.proofs.compare.prepend_difference.Goals as goal

pub returns-then-prepend_in_front : goal.returns-then-prepend_in_front
returns-then-prepend_in_front c =
    front_told c.args.what c.args.a.now c.args.b.now c.prepend_in_front.new.line c.prepend_in_front.result c.prepend_in_front.ensures c.if-prepend_in_front.true

pub prepend_in_commands-requires : goal.prepend_in_commands-requires
prepend_in_commands-requires c =
    (front_agrees c.args.what c.args.a.now c.args.b.now c.prepend_in_front.new.line c.prepend_in_front.result c.prepend_in_front.ensures c.if-prepend_in_front.false).1

pub returns : goal.returns
returns c =
    commands_told c.args.what c.args.a.now c.args.b.now c.prepend_in_commands.new.line c.prepend_in_commands.result
    (front_agrees c.args.what c.args.a.now c.args.b.now c.prepend_in_front.new.line c.prepend_in_front.result c.prepend_in_front.ensures c.if-prepend_in_front.false).0
    c.prepend_in_commands.ensures
