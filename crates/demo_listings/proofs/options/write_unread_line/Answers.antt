use Rattle.std.proofs.Common.{[], ◌∷◌, ◌++◌, length, map}
use Rattle.std.proofs.lemmas.Result.{err_from_is_err_and}
use Rattle.std.specs.List.{range_with_len}
use Rattle.lens_texts.proofs.WritingLemmas.{Writes-after, Writes-later}
use Rattle.lens_texts.specs.Parts.{joined}
use Rattle.line_io.proofs.WriteLemmas.{Writes-stop}
use Rattle.demo_listings.specs.Listing.{byte_text}
use Rattle.demo_listings.proofs.options.write_unread_line.Goals as goal

pub returns-in_err-emit : goal.returns-in_err-emit
returns-in_err-emit g c =
    let p = err_from_is_err_and c.from_residual.result c.from_residual.ensures.1 in
    let demo = c.args.demo.now in
    rw (p.1, p.2) (Writes-stop (joined (map (byte_text demo.layout demo.header) (range_with_len 0 (length demo.header))) ++ 10 ∷ []) c.in_err-emit.ensures)

pub returns-in_err-write_parts : goal.returns-in_err-write_parts
returns-in_err-write_parts g c =
    let p = err_from_is_err_and c.from_residual-in_err-write_parts.result c.from_residual-in_err-write_parts.ensures.1 in
    rw (p.1, p.2) (Writes-later c.in_ok-emit.ensures (Writes-stop {U = Unit {0}} (10 ∷ []) c.in_err-write_parts.ensures))

pub returns : goal.returns
returns g c = Writes-after c.in_ok-emit.ensures (Writes-after c.in_ok-write_parts.ensures c.emit-2.ensures)
