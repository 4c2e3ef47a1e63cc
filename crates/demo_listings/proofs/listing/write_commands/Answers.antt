use Rattle.std.proofs.Common.{◌≡◌, ◌+◌, List, ℕ, [], length, ap, ◌∙◌, arith}
use Rattle.std.proofs.lemmas.Result.{err_from_is_err_and}
use Rattle.later_demos.specs.Header.{players_of}
use Rattle.line_io.proofs.WriteProgressLemmas.{SoFar-end, SoFar-more, SoFar-none, SoFar-stop}
use Rattle.look_engines.specs.Turn.{PlayerTurn, player_of, tic_of}
use Rattle.demo_listings.proofs.TextLemmas.{commands-cons, none_left}
use Rattle.demo_listings.specs.Listing.{command_line, commands_text}
use Rattle.demo_listings.proofs.listing.write_commands.Goals as goal

pub commands-init : goal.commands-init
commands-init g c =
    let left = c.commands-left.ensures in
    record {
      sound = c.requires;
      turn = c.new-turn.ensures ∙ ap (λ (players : List ℕ). record { players = players; index = 0 }) c.players.ensures.players;
      counted = omega (arith, ap length left);
      so_far = rw left (SoFar-none _ _);
    }

pub returns-in_err-write_command : goal.returns-in_err-write_command
returns-in_err-write_command g c =
    let p = err_from_is_err_and c.from_residual.result c.from_residual.ensures.1 in
    let i = c.commands.invariant in
    let at = c.commands._index in
    let players = players_of c.args.demo.now.layout c.args.demo.now.header in
    let line = rw i.turn at c.in_err-write_command.ensures in
    let cut = commands-cons players at c.in-Some.command c.commands.left c.next.new.self c.in-Some.ensures.steps in
    rw (p.1, p.2) (SoFar-stop (command_line (tic_of players at) (player_of players at) c.in-Some.command) (commands_text players (at + 1) c.next.new.self) i.so_far cut line)

pub commands-preserved : goal.commands-preserved
commands-preserved g c =
    let i = c.commands.invariant in
    let at = c.commands._index in
    let players = players_of c.args.demo.now.layout c.args.demo.now.header in
    let line = rw i.turn at c.in_ok-write_command.ensures in
    let cut = commands-cons players at c.in-Some.command c.commands.left c.next.new.self c.in-Some.ensures.steps in
    record {
      sound = line.ends.sound;
      turn = c.step.ensures ∙ ap (λ (t : PlayerTurn). record t { index = t.index + 1 }) i.turn;
      counted = omega (arith, i.counted, ap length c.in-Some.ensures.steps);
      so_far = SoFar-more _ (command_line (tic_of players at) (player_of players at) c.in-Some.command) (commands_text players (at + 1) c.next.new.self) i.so_far cut line.takes.whole;
    }

pub returns-in_default : goal.returns-in_default
returns-in_default g c =
    let i = c.commands.invariant in
    let none : c.commands.left ≡ [] = c.in_default.ensures.steps.0 in
    let players = players_of c.args.demo.now.layout c.args.demo.now.header in
    SoFar-end tt i.so_far (ap (commands_text players c.commands._index) none) i.sound

pub returns-after-commands : goal.returns-after-commands
returns-after-commands g c =
    let i = c.commands.invariant in
    let none : c.commands.left ≡ [] = none_left c.commands.left (omega (arith, i.counted, c.commands-test.false, c.count-index-end.ensures.commands)) in
    let players = players_of c.args.demo.now.layout c.args.demo.now.header in
    SoFar-end tt i.so_far (ap (commands_text players c.commands._index) none) i.sound
