use Rattle.std.proofs.Common.{ap, ◌∙◌, subst}
use Rattle.look_engines.specs.Turn.{PlayerTurn}
use Rattle.demo_listings.proofs.ComparedLemmas.{stop_at_end_of_a, stop_at_end_of_b, stop_differ, stop_same}
use Rattle.demo_listings.specs.Differences.{StopsAt}
use Rattle.demo_listings.specs.declared.compare.Stop.{Stop}
use Rattle.demo_listings.proofs.compare.prepend_in_commands.Goals as goal

pub returns-in-Same : goal.returns-in-Same
returns-in-Same c =
    let turn = c.first_stop.new.turn in
    let players = c.first_stop.ensures.players ∙ ap (λ (t : PlayerTurn). t.players) c.new-turn.ensures ∙ c.players.ensures.players in
    let stops = subst (λ (s : Stop). StopsAt c.args.what c.args.a.now c.args.b.now turn.index s) c.in-Same.is c.first_stop.ensures.stops in
    stop_same c.args.what c.args.a.now c.args.b.now turn c.args.line.now players stops c.requires

pub returns-in-Differ : goal.returns-in-Differ
returns-in-Differ c =
    let turn = c.first_stop.new.turn in
    let players = c.first_stop.ensures.players ∙ ap (λ (t : PlayerTurn). t.players) c.new-turn.ensures ∙ c.players.ensures.players in
    let stops = subst (λ (s : Stop). StopsAt c.args.what c.args.a.now c.args.b.now turn.index s) c.in-Differ.is c.first_stop.ensures.stops in
    stop_differ c.args.what c.args.a.now c.args.b.now turn c.prepend_command_line.new.line players c.in-Differ.x c.in-Differ.y stops c.prepend_command_line.ensures

pub returns-in-EndOfA : goal.returns-in-EndOfA
returns-in-EndOfA c =
    let turn = c.first_stop.new.turn in
    let players = c.first_stop.ensures.players ∙ ap (λ (t : PlayerTurn). t.players) c.new-turn.ensures ∙ c.players.ensures.players in
    let stops = subst (λ (s : Stop). StopsAt c.args.what c.args.a.now c.args.b.now turn.index s) c.in-EndOfA.is c.first_stop.ensures.stops in
    stop_at_end_of_a c.args.what c.args.a.now c.args.b.now turn c.prepend_end_line.new.line players stops (rw (← c.tic.ensures) c.prepend_end_line.ensures)

pub returns-in-EndOfB : goal.returns-in-EndOfB
returns-in-EndOfB c =
    let turn = c.first_stop.new.turn in
    let players = c.first_stop.ensures.players ∙ ap (λ (t : PlayerTurn). t.players) c.new-turn.ensures ∙ c.players.ensures.players in
    let stops = subst (λ (s : Stop). StopsAt c.args.what c.args.a.now c.args.b.now turn.index s) c.in-EndOfB.is c.first_stop.ensures.stops in
    stop_at_end_of_b c.args.what c.args.a.now c.args.b.now turn c.prepend_end_line-in-EndOfB.new.line players stops
    (rw (← c.tic-in-EndOfB.ensures) c.prepend_end_line-in-EndOfB.ensures)
