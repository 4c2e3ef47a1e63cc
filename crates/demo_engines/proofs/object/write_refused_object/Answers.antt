use Rattle.std.proofs.Common.{◌++◌}
use Rattle.std.proofs.lemmas.Result.{err_from_is_err_and}
use Rattle.line_io.proofs.WriteLemmas.{Writes-stop}
use Rattle.lens_texts.proofs.WritingLemmas.{Writes-after, Writes-later}
use Rattle.demo_engines.specs.Objects.{lump_member, refused_member}
use Rattle.demo_engines.specs.RefusalText.{reason_text}
use Rattle.demo_engines.proofs.object.write_refused_object.Goals as goal

pub returns-in_err-write_file : goal.returns-in_err-write_file
returns-in_err-write_file g c =
    let p = err_from_is_err_and c.from_residual.result c.from_residual.ensures.1 in
    rw (p.1, p.2) (Writes-stop (lump_member c.args.heading.now.lump ++ refused_member (reason_text c.args.why)) c.in_err-write_file.ensures)

pub returns-in_err-write_lump : goal.returns-in_err-write_lump
returns-in_err-write_lump g c =
    let p = err_from_is_err_and c.from_residual-in_err-write_lump.result c.from_residual-in_err-write_lump.ensures.1 in
    rw (p.1, p.2) (Writes-later c.in_ok-write_file.ensures (Writes-stop {U = Unit {0}} (refused_member (reason_text c.args.why)) c.in_err-write_lump.ensures))

pub returns : goal.returns
returns g c = Writes-after c.in_ok-write_file.ensures (Writes-after c.in_ok-write_lump.ensures c.write_reason.ensures)
