use Rattle.std.specs.Prelude.{length}
use Rattle.std.proofs.Common.{◌++◌}
use Rattle.demo_lump.specs.Header.{players_in}
use Rattle.demo_engines.specs.Objects.{end_members, frame_member, length_members, rules_or_none}
use Rattle.demo_engines.specs.Summary.{full_tics, game, odd_commands}
use Rattle.std.proofs.lemmas.Result.{err_from_is_err_and}
use Rattle.line_io.proofs.WriteLemmas.{Writes-stop}
use Rattle.lens_texts.proofs.WritingLemmas.{Writes-after, Writes-later}
use Rattle.demo_engines.proofs.object.write_members.Goals as goal

pub returns-in_err-write_level : goal.returns-in_err-write_level
returns-in_err-write_level g c =
    let p = err_from_is_err_and c.from_residual.result c.from_residual.ensures.1 in
    rw (p.1, p.2) (Writes-stop (length_members (players_in (game c.args.demo.now).players) (full_tics c.args.demo.now) (odd_commands c.args.demo.now) (length c.args.demo.now.rest) ++ (frame_member c.args.demo.now.key_frame ++ (rules_or_none c.args.demo.now ++ end_members c.args.footer.now))) (rw c.game.ensures.game at c.in_err-write_level.ensures))

pub returns-in_err-write_length : goal.returns-in_err-write_length
returns-in_err-write_length g c =
    let p = err_from_is_err_and c.from_residual-in_err-write_length.result c.from_residual-in_err-write_length.ensures.1 in
    rw (p.1, p.2) (Writes-later {T = Unit {0}} (rw c.game.ensures.game at c.in_ok-write_level.ensures) (Writes-stop {U = Unit {0}} (frame_member c.args.demo.now.key_frame ++ (rules_or_none c.args.demo.now ++ end_members c.args.footer.now)) c.in_err-write_length.ensures))

pub returns-in_err-write_frame : goal.returns-in_err-write_frame
returns-in_err-write_frame g c =
    let p = err_from_is_err_and c.from_residual-in_err-write_frame.result c.from_residual-in_err-write_frame.ensures.1 in
    rw (p.1, p.2) (Writes-later {T = Unit {0}} (rw c.game.ensures.game at c.in_ok-write_level.ensures) (Writes-later {T = Unit {0}} c.in_ok-write_length.ensures (Writes-stop {U = Unit {0}} (rules_or_none c.args.demo.now ++ end_members c.args.footer.now) (rw c.key_frame.ensures at c.in_err-write_frame.ensures))))

pub returns-in_err-write_rules : goal.returns-in_err-write_rules
returns-in_err-write_rules g c =
    let p = err_from_is_err_and c.from_residual-in_err-write_rules.result c.from_residual-in_err-write_rules.ensures.1 in
    rw (p.1, p.2) (Writes-later {T = Unit {0}} (rw c.game.ensures.game at c.in_ok-write_level.ensures) (Writes-later {T = Unit {0}} c.in_ok-write_length.ensures (Writes-later {T = Unit {0}} (rw c.key_frame.ensures at c.in_ok-write_frame.ensures) (Writes-stop {U = Unit {0}} (end_members c.args.footer.now) c.in_err-write_rules.ensures))))

pub returns : goal.returns
returns g c = Writes-after (rw c.game.ensures.game at c.in_ok-write_level.ensures) (Writes-after c.in_ok-write_length.ensures (Writes-after (rw c.key_frame.ensures at c.in_ok-write_frame.ensures) (Writes-after c.in_ok-write_rules.ensures c.write_end.ensures)))
