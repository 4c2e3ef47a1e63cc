use Rattle.std.proofs.Common.{ap, length, sym, ◌∙◌}
use Rattle.std.proofs.lemmas.Result.{err_from_is_err_and}
use Rattle.later_demos.specs.Command.{commands_in, left_in}
use Rattle.later_demos.proofs.DemoLemmas.{cut_demo, first_refuses, found_demo, left_within, no_demo, no_fault, only_demo, only_fault, options_few, players_four, players_low, players_there}
use Rattle.later_demos.proofs.demo.LaterDemo.read.Goals as goal

pub returns-in_err-front-clause-ok : goal.returns-in_err-front-clause-ok
returns-in_err-front-clause-ok c =
    let p = err_from_is_err_and c.from_residual.result c.from_residual.ensures.1 in
    rw (p.1, p.2) (no_demo c.args.bytes.now _ (first_refuses c.args.bytes.now _ c.in_err-front.ensures.refused))

pub returns-in_err-front-clause-refused : goal.returns-in_err-front-clause-refused
returns-in_err-front-clause-refused c =
    let p = err_from_is_err_and c.from_residual.result c.from_residual.ensures.1 in
    rw (p.1, p.2) (only_fault c.args.bytes.now _ (first_refuses c.args.bytes.now _ c.in_err-front.ensures.refused))

pub invariant_of-result : goal.invariant_of-result
invariant_of-result c =
    let f = c.in_ok-front.ensures.ok in (
      players_low c.args.bytes.now _ _ _ _ _ f.allowed f.inner.wrapped f.inner.version f.inner.header f.inner.frame f.inner.commands,
      players_there c.args.bytes.now _ _ _ _ _ f.allowed f.inner.wrapped f.inner.version f.inner.header f.inner.frame f.inner.commands,
      players_four c.args.bytes.now _ _ _ _ _ f.allowed f.inner.wrapped f.inner.version f.inner.header f.inner.frame f.inner.commands,
      options_few c.args.bytes.now _ _ _ _ _ f.allowed f.inner.wrapped f.inner.version f.inner.header f.inner.frame f.inner.commands,
      c.scan-found.ensures.counted
          ∙ ap (λ form. length (commands_in form c.in_ok-front.front.commands.now)) c.form_of.ensures,
    )

pub overflow_sub-result : goal.overflow_sub-result
overflow_sub-result c =
    let f = c.in_ok-front.ensures.ok in
    rw (c.scan-found.ensures.left, c.form_of.ensures)
    (left_within c.args.bytes.now _ _ _ _ _ f.allowed f.inner.wrapped f.inner.version f.inner.header f.inner.frame f.inner.commands)

pub returns-in-Some-clause-ok : goal.returns-in-Some-clause-ok
returns-in-Some-clause-ok c =
    let f = c.in_ok-front.ensures.ok in
    let left =
    ap (λ form. left_in form c.in_ok-front.front.commands.now) (sym c.form_of.ensures)
    ∙ sym c.scan-found.ensures.left ∙ c.in-Some.ensures in
    only_demo c.args.bytes.now _
    (found_demo c.args.bytes.now _ _ _ _ _ f.allowed f.inner.wrapped f.inner.version f.inner.header f.inner.frame f.inner.commands _ left)

pub returns-in-Some-clause-refused : goal.returns-in-Some-clause-refused
returns-in-Some-clause-refused c =
    let f = c.in_ok-front.ensures.ok in
    let left =
    ap (λ form. left_in form c.in_ok-front.front.commands.now) (sym c.form_of.ensures)
    ∙ sym c.scan-found.ensures.left ∙ c.in-Some.ensures in
    no_fault c.args.bytes.now _
    (found_demo c.args.bytes.now _ _ _ _ _ f.allowed f.inner.wrapped f.inner.version f.inner.header f.inner.frame f.inner.commands _ left)

pub returns-in-None-clause-ok : goal.returns-in-None-clause-ok
returns-in-None-clause-ok c =
    let f = c.in_ok-front.ensures.ok in
    let unmarked = rw (c.scan-found.ensures.left, c.form_of.ensures) at c.in-None.ensures in
    rw (c.scan-found.ensures.left, c.form_of.ensures) (no_demo c.args.bytes.now _
    (cut_demo c.args.bytes.now _ _ _ _ _ f.allowed f.inner.wrapped f.inner.version f.inner.header f.inner.frame f.inner.commands unmarked))

pub returns-in-None-clause-refused : goal.returns-in-None-clause-refused
returns-in-None-clause-refused c =
    let f = c.in_ok-front.ensures.ok in
    let unmarked = rw (c.scan-found.ensures.left, c.form_of.ensures) at c.in-None.ensures in
    rw (c.scan-found.ensures.left, c.form_of.ensures) (only_fault c.args.bytes.now _
    (cut_demo c.args.bytes.now _ _ _ _ _ f.allowed f.inner.wrapped f.inner.version f.inner.header f.inner.frame f.inner.commands unmarked))
