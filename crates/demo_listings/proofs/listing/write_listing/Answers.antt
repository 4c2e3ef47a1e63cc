use Rattle.std.proofs.Common.{◌++◌, length}
use Rattle.later_demos.specs.Header.{players_of}
use Rattle.look_engines.specs.Listing.{totals_text}
use Rattle.demo_listings.specs.Listing.{commands_text}
use Rattle.std.proofs.lemmas.Result.{err_from_is_err_and}
use Rattle.line_io.proofs.WriteLemmas.{Writes-stop}
use Rattle.lens_texts.proofs.WritingLemmas.{Writes-after, Writes-later}
use Rattle.demo_listings.proofs.listing.write_listing.Goals as goal

pub returns-in_err-write_front : goal.returns-in_err-write_front
returns-in_err-write_front g c =
    let p = err_from_is_err_and c.from_residual.result c.from_residual.ensures.1 in
    rw (p.1, p.2) (Writes-stop (commands_text (players_of c.args.demo.now.layout c.args.demo.now.header) 0 c.args.demo.now.commands ++ totals_text (players_of c.args.demo.now.layout c.args.demo.now.header) (length c.args.demo.now.commands) (length c.args.demo.now.rest)) c.in_err-write_front.ensures)

pub returns-in_err-write_commands : goal.returns-in_err-write_commands
returns-in_err-write_commands g c =
    let p = err_from_is_err_and c.from_residual-in_err-write_commands.result c.from_residual-in_err-write_commands.ensures.1 in
    rw (p.1, p.2) (Writes-later c.in_ok-write_front.ensures (Writes-stop {U = Unit {0}} (totals_text (players_of c.args.demo.now.layout c.args.demo.now.header) (length c.args.demo.now.commands) (length c.args.demo.now.rest)) c.in_err-write_commands.ensures))

pub returns : goal.returns
returns g c = Writes-after c.in_ok-write_front.ensures (Writes-after c.in_ok-write_commands.ensures c.write_totals.ensures)
