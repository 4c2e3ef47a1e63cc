use Rattle.std.specs.Prelude.{codes, length}
use Rattle.std.proofs.Common.{◌++◌}
use Rattle.std.proofs.lemmas.Result.{err_from_is_err_and}
use Rattle.line_io.proofs.WriteLemmas.{Writes-stop}
use Rattle.lens_texts.proofs.WritingLemmas.{Writes-after, Writes-later}
use Rattle.demo_engines.specs.Summary.{full_tics, game_text, length_text, lump_text, odd_commands, rest_text}
use Rattle.demo_engines.proofs.summary.write_summary.Goals as goal

pub returns-in_err-write_path : goal.returns-in_err-write_path
returns-in_err-write_path g c =
    let p = err_from_is_err_and c.from_residual.result c.from_residual.ensures.1 in
    let demo = c.args.demo.now in
    rw (p.1, p.2) (Writes-stop ((codes ": " ++ (lump_text c.args.heading.now.lump ++ game_text demo))
    ++ (length_text (full_tics demo) ++ rest_text demo.key_frame (odd_commands demo) (length demo.rest)))
    c.in_err-write_path.ensures)

pub returns-in_err-emit : goal.returns-in_err-emit
returns-in_err-emit g c =
    let p = err_from_is_err_and c.from_residual-in_err-emit.result c.from_residual-in_err-emit.ensures.1 in
    let demo = c.args.demo.now in
    let line = rw (c.as_bytes.ensures, c.prepend_bytes.ensures.text, c.prepend_lump.ensures.text, c.prepend_game.ensures.text) at c.in_err-emit.ensures in
    rw (p.1, p.2) (Writes-later c.in_ok-write_path.ensures (Writes-stop {U = Unit {0}} (length_text (full_tics demo) ++ rest_text demo.key_frame (odd_commands demo) (length demo.rest)) line))

pub returns : goal.returns
returns g c =
    let line = rw (c.as_bytes.ensures, c.prepend_bytes.ensures.text, c.prepend_lump.ensures.text, c.prepend_game.ensures.text) at c.in_ok-emit.ensures in
    Writes-after c.in_ok-write_path.ensures (Writes-after line c.write_length.ensures)
