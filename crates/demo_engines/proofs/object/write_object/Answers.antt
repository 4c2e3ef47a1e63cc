use Rattle.std.specs.Prelude.{length}
use Rattle.std.proofs.Common.{◌++◌}
use Rattle.demo_lump.specs.Header.{players_in}
use Rattle.demo_engines.specs.Objects.{end_members, frame_member, length_members, level_members, lump_member, rules_or_none, version_members}
use Rattle.demo_engines.specs.Summary.{full_tics, game, odd_commands}
use Rattle.std.proofs.lemmas.Result.{err_from_is_err_and}
use Rattle.line_io.proofs.WriteLemmas.{Writes-stop}
use Rattle.lens_texts.proofs.WritingLemmas.{Writes-after, Writes-later}
use Rattle.demo_engines.proofs.object.write_object.Goals as goal

pub returns-in_err-write_file : goal.returns-in_err-write_file
returns-in_err-write_file g c =
    let p = err_from_is_err_and c.from_residual.result c.from_residual.ensures.1 in
    rw (p.1, p.2) (Writes-stop (lump_member c.args.heading.now.lump ++ (version_members c.args.demo.now ++ (level_members (game c.args.demo.now) ++ (length_members (players_in (game c.args.demo.now).players) (full_tics c.args.demo.now) (odd_commands c.args.demo.now) (length c.args.demo.now.rest) ++ (frame_member c.args.demo.now.key_frame ++ (rules_or_none c.args.demo.now ++ end_members c.args.footer.now)))))) c.in_err-write_file.ensures)

pub returns-in_err-write_lump : goal.returns-in_err-write_lump
returns-in_err-write_lump g c =
    let p = err_from_is_err_and c.from_residual-in_err-write_lump.result c.from_residual-in_err-write_lump.ensures.1 in
    rw (p.1, p.2) (Writes-later c.in_ok-write_file.ensures (Writes-stop {U = Unit {0}} (version_members c.args.demo.now ++ (level_members (game c.args.demo.now) ++ (length_members (players_in (game c.args.demo.now).players) (full_tics c.args.demo.now) (odd_commands c.args.demo.now) (length c.args.demo.now.rest) ++ (frame_member c.args.demo.now.key_frame ++ (rules_or_none c.args.demo.now ++ end_members c.args.footer.now))))) c.in_err-write_lump.ensures))

pub returns-in_err-write_version : goal.returns-in_err-write_version
returns-in_err-write_version g c =
    let p = err_from_is_err_and c.from_residual-in_err-write_version.result c.from_residual-in_err-write_version.ensures.1 in
    rw (p.1, p.2) (Writes-later {T = Unit {0}} c.in_ok-write_file.ensures (Writes-later {T = Unit {0}} c.in_ok-write_lump.ensures (Writes-stop {U = Unit {0}} (level_members (game c.args.demo.now) ++ (length_members (players_in (game c.args.demo.now).players) (full_tics c.args.demo.now) (odd_commands c.args.demo.now) (length c.args.demo.now.rest) ++ (frame_member c.args.demo.now.key_frame ++ (rules_or_none c.args.demo.now ++ end_members c.args.footer.now)))) c.in_err-write_version.ensures)))

pub returns : goal.returns
returns g c = Writes-after c.in_ok-write_file.ensures (Writes-after c.in_ok-write_lump.ensures (Writes-after c.in_ok-write_version.ensures c.write_members.ensures))
