use Rattle.std.proofs.Common.{◌≡◌, ◌+◌, ◌++◌, [], length, drop, Some, refl, sym, ap, ◌∙◌, arith}
use Rattle.std.proofs.Math.ListN.{drop_of_length-le}
use Rattle.std.proofs.lemmas.Result.{err_from_is_err_and}
use Rattle.std.specs.List.{slice_get}
use Rattle.demo_lump.specs.declared.header.Header.{Header}
use Rattle.line_io.proofs.WriteProgressLemmas.{SoFar-none, SoFar-more, SoFar-stop}
use Rattle.look_engines.proofs.ListingLemmas.{ticcmds_text-drop}
use Rattle.line_io.proofs.RestLemmas.{drop_past}
use Rattle.look_engines.proofs.engines.DemoLemmas.{SoFar-last}
use Rattle.look_engines.specs.Listing.{ticcmds_text, listing, totals_text}
use Rattle.look_engines.specs.Turn.{PlayerTurn}
use Rattle.look_engines.proofs.engines.demo.write_demo.Goals as goal
use Rattle.look_engines.proofs.engines.demo.write_demo.Goals.{else-commands-test, then-commands-test+in_default}

pub returns-in_err-emit : goal.returns-in_err-emit
returns-in_err-emit g c =
    let p = err_from_is_err_and c.from_residual.result c.from_residual.ensures.1 in
    let w = rw (c.as_bytes.ensures, c.prepend_header.ensures, c.header.ensures.header) at c.in_err-emit.ensures in
    rw (p.1, p.2) (SoFar-stop _ _ (SoFar-none (listing c.args.demo.now) _) refl w)

pub new-turn-requires : goal.new-turn-requires
new-turn-requires g c = rw c.header-2.ensures.header c.header-2.ensures.some

pub step-requires : goal.step-requires
step-requires g c = omega (arith, ap (λ (t : PlayerTurn). t.index) c.commands.invariant.turn, c.commands-test.true, c.commands-i-end.ensures.bound)

pub commands-init : goal.commands-init
commands-init g c =
    let w = rw (c.as_bytes.ensures, c.prepend_header.ensures, c.header.ensures.header) at c.in_ok-emit.ensures in
    record {
      sound = w.ends.sound;
      turn = c.new-turn.ensures ∙ ap (λ (h : Header). record { players = h.players; index = 0 }) c.header-2.ensures.header;
      so_far = SoFar-more _ _ _ (SoFar-none (listing c.args.demo.now) _) refl w.takes.whole;
    }

pub returns-in_err-emit-2 : goal.returns-in_err-emit-2
returns-in_err-emit-2 g c =
    let p = err_from_is_err_and c.from_residual-in_err-emit-2.result c.from_residual-in_err-emit-2.ensures.1 in
    let i = c.commands.invariant in
    let d = c.args.demo.now in
    let w = rw (c.as_bytes-in-commands.ensures, c.prepend_ticcmd.ensures, c.tic.ensures, c.player.ensures, i.turn) at c.in_err-emit-2.ensures in
    let at : slice_get d.commands c.commands.i ≡ Some c.in-Some.command = sym c.command.ensures ∙ c.in-Some.is in
    let totals = totals_text d.header.players (length d.commands) d.after in
    let cut = ticcmds_text-drop d.header.players d.commands c.commands.i c.in-Some.command totals at in
    rw (p.1, p.2) (SoFar-stop _ (ticcmds_text d.header.players (c.commands.i + 1) (drop (c.commands.i + 1) d.commands) ++ totals) i.so_far cut w)

pub commands-preserved : goal.commands-preserved
commands-preserved g c =
    let i = c.commands.invariant in
    let d = c.args.demo.now in
    let w = rw (c.as_bytes-in-commands.ensures, c.prepend_ticcmd.ensures, c.tic.ensures, c.player.ensures, i.turn) at c.in_ok-emit-2.ensures in
    let at : slice_get d.commands c.commands.i ≡ Some c.in-Some.command = sym c.command.ensures ∙ c.in-Some.is in
    let totals = totals_text d.header.players (length d.commands) d.after in
    let cut = ticcmds_text-drop d.header.players d.commands c.commands.i c.in-Some.command totals at in
    record {
      sound = w.ends.sound;
      turn = c.step.ensures ∙ ap (λ (t : PlayerTurn). record t { index = t.index + 1 }) i.turn;
      so_far = SoFar-more _ _ (ticcmds_text d.header.players (c.commands.i + 1) (drop (c.commands.i + 1) d.commands) ++ totals) i.so_far cut w.takes.whole;
    }

pub returns : goal.returns
returns g c =
    let i = c.commands.invariant in
    let d = c.args.demo.now in
    let past : drop c.commands.i d.commands ≡ [] = elim c.commands-test.branch [
      | else-commands-test w ↦ drop_of_length-le d.commands {i = c.commands.i} (omega (arith, c.commands-i-end.ensures.commands, w.commands-test.false))
      | then-commands-test+in_default w ↦ drop_past d.commands c.commands.i (sym w.command.ensures ∙ w.in_default.is)
    ] in
    let so_far = rw past at i.so_far in
    let w = rw (c.as_bytes-2.ensures, c.prepend_totals.ensures, c.full_tics.ensures, c.odd_commands-odd.ensures, c.after.ensures) at c.emit-2.ensures in
    SoFar-last _ so_far w
