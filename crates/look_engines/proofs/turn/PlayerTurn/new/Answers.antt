use Rattle.std.proofs.Common.{◌≡◌, ◌+◌, ◌<◌, length, arith, rules, sym, ap, ◌∙◌}
use Rattle.std.proofs.lemmas.List.{take_more_set, length-set}
use Rattle.look_engines.proofs.TurnLemmas.{seats_more_no, seats_more_yes, players_more_no, players_more_yes}
use Rattle.look_engines.proofs.turn.PlayerTurn.new.Goals as goal
use Rattle.look_engines.proofs.turn.PlayerTurn.new.Goals.{then-players-i-ne0, else-players-i-ne0}

pub loop-i-preserved : goal.loop-i-preserved
loop-i-preserved c =
    let i = c.loop-i.invariant in
    let all : length c.args.players ≡ 4 = search rules in
    let within : c.loop-i.i < length c.args.players = omega (arith, all, c.loop-i-test.true) in
    elim c.if-players-i-ne0.branch [
      | then-players-i-ne0 w ↦ record {
        long = ap length w.seats-is ∙ length-set c.loop-i.seats c.loop-i.count (c.loop-i.i + 1) ∙ i.long;
        few = omega (arith, w.count-is, i.few);
        counted = w.count-is ∙ ap (λ n. n + 1) i.counted ∙ sym (players_more_yes c.args.players c.loop-i.i within w.if-players-i-ne0.true);
        seats = rw (w.count-is, w.seats-is, take_more_set c.loop-i.seats c.loop-i.count (c.loop-i.i + 1) (omega (arith, i.long, i.few, c.loop-i-test.true)), i.seats) (sym (seats_more_yes c.args.players c.loop-i.i within w.if-players-i-ne0.true));
      }
      | else-players-i-ne0 w ↦ record {
        long = ap length w.seats-is ∙ i.long;
        few = omega (arith, w.count-is, i.few);
        counted = w.count-is ∙ i.counted ∙ sym (players_more_no c.args.players c.loop-i.i within w.if-players-i-ne0.false);
        seats = rw (w.count-is, w.seats-is, i.seats) (sym (seats_more_no c.args.players c.loop-i.i within w.if-players-i-ne0.false));
      }
    ]
