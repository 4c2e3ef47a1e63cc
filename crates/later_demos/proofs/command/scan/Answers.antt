use Rattle.std.proofs.Common.{arith, ap, length, sym, ◌∙◌}
use Rattle.std.proofs.lemmas.List.{take_rest}
use Rattle.later_demos.proofs.CommandLemmas.{commands_end, commands_more, count_fits, left_end, left_more}
use Rattle.later_demos.proofs.command.scan.Goals as goal

pub overflow_add-count : goal.overflow_add-count
overflow_add-count c =
    let more = commands_more _ _ c.in-Some.ensures.begun in
    omega (arith, ap length more, c.commands.invariant.counted, count_fits c.args.form c.args.bytes.now)

pub commands-preserved : goal.commands-preserved
commands-preserved c =
    let next = c.in-Some.ensures in
    let more = commands_more _ _ next.begun in
    rw (take_rest, next.sized) (record {
      counted = omega (arith, ap length more, c.commands.invariant.counted);
      kept = sym (left_more _ _ next.begun) ∙ c.commands.invariant.kept;
    })

pub returns-clause-counted : goal.returns-clause-counted
returns-clause-counted c =
    omega (arith, ap length (commands_end _ _ c.in_default.ensures), c.commands.invariant.counted)

pub returns-clause-left : goal.returns-clause-left
returns-clause-left c = sym (left_end _ _ c.in_default.ensures) ∙ c.commands.invariant.kept
