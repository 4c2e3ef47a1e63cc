use Rattle.std.proofs.Common.{◌++◌}
use Rattle.demo_listings.specs.Listing.{options_line, unread_line, wrapper_line}
use Rattle.std.proofs.lemmas.Result.{err_from_is_err_and}
use Rattle.line_io.proofs.WriteLemmas.{Writes-stop}
use Rattle.lens_texts.proofs.WritingLemmas.{Writes-after, Writes-later}
use Rattle.demo_listings.proofs.listing.write_front.Goals as goal

pub returns-in_err-write_header : goal.returns-in_err-write_header
returns-in_err-write_header g c =
    let p = err_from_is_err_and c.from_residual.result c.from_residual.ensures.1 in
    rw (p.1, p.2) (Writes-stop (wrapper_line c.args.demo.now.wrapper c.args.demo.now.key_frame ++ (options_line c.args.demo.now.layout c.args.demo.now.header ++ unread_line c.args.demo.now.layout c.args.demo.now.header)) c.in_err-write_header.ensures)

pub returns-in_err-write_wrapper : goal.returns-in_err-write_wrapper
returns-in_err-write_wrapper g c =
    let p = err_from_is_err_and c.from_residual-in_err-write_wrapper.result c.from_residual-in_err-write_wrapper.ensures.1 in
    rw (p.1, p.2) (Writes-later c.in_ok-write_header.ensures (Writes-stop {U = Unit {0}} (options_line c.args.demo.now.layout c.args.demo.now.header ++ unread_line c.args.demo.now.layout c.args.demo.now.header) c.in_err-write_wrapper.ensures))

pub returns-in_err-write_options : goal.returns-in_err-write_options
returns-in_err-write_options g c =
    let p = err_from_is_err_and c.from_residual-in_err-write_options.result c.from_residual-in_err-write_options.ensures.1 in
    rw (p.1, p.2) (Writes-later {T = Unit {0}} c.in_ok-write_header.ensures (Writes-later {T = Unit {0}} c.in_ok-write_wrapper.ensures (Writes-stop {U = Unit {0}} (unread_line c.args.demo.now.layout c.args.demo.now.header) c.in_err-write_options.ensures)))

pub returns : goal.returns
returns g c = Writes-after c.in_ok-write_header.ensures (Writes-after c.in_ok-write_wrapper.ensures (Writes-after c.in_ok-write_options.ensures c.write_unread.ensures))
