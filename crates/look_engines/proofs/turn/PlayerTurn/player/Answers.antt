use Rattle.std.proofs.Common.{◌≡◌, ◌*◌, ◌+◌, ◌%◌, get_or, sym, ap, ◌∙◌}
use Rattle.std.proofs.lemmas.List.{get_or-take}
use Rattle.std.proofs.lemmas.Nat.{mod-mul-add}
use Rattle.demo_lump.specs.Header.{players_in}
use Rattle.look_engines.specs.Turn.{seats_from}
use Rattle.look_engines.proofs.turn.PlayerTurn.player.Goals as goal

pub returns : goal.returns
returns c =
    let t = c.self.inside in
    let i = c.self.invariant in
    let seat : (t.tic * t.count + t.seat) % players_in t.players ≡ t.seat = rw (← i.2) (mod-mul-add t.tic t.count t.seat i.0) in
    let at : get_or t.seats t.seat 0 ≡ get_or (seats_from 1 t.players) t.seat 0 = sym (get_or-take t.count t.seats t.seat 0 i.0) ∙ ap (λ xs. get_or xs t.seat 0) i.3 in
    rw (← c.self.view_is, seat) at
