use Rattle.std.proofs.Common.{[], ◌∷◌, ◌++◌, map}
use Rattle.std.proofs.lemmas.Result.{err_from_is_err_and}
use Rattle.later_demos.specs.Field.{comp_of}
use Rattle.lens_texts.proofs.WritingLemmas.{Writes-after, Writes-later}
use Rattle.lens_texts.specs.Parts.{joined}
use Rattle.line_io.proofs.WriteLemmas.{Writes-stop}
use Rattle.demo_listings.specs.Listing.{comp_text, option_text, options}
use Rattle.demo_listings.proofs.options.write_options_line.Goals as goal

pub returns-in_err-emit : goal.returns-in_err-emit
returns-in_err-emit g c =
    let p = err_from_is_err_and c.from_residual.result c.from_residual.ensures.1 in
    let demo = c.args.demo.now in
    rw (p.1, p.2) (Writes-stop (joined (map (option_text demo.layout demo.header) options) ++ (comp_text (comp_of demo.layout.engine demo.header) ++ 10 ∷ [])) c.in_err-emit.ensures)

pub returns-in_err-write_parts : goal.returns-in_err-write_parts
returns-in_err-write_parts g c =
    let p = err_from_is_err_and c.from_residual-in_err-write_parts.result c.from_residual-in_err-write_parts.ensures.1 in
    let demo = c.args.demo.now in
    let parts = rw c.options-fields.ensures at c.in_err-write_parts.ensures in
    rw (p.1, p.2) (Writes-later c.in_ok-emit.ensures (Writes-stop {U = Unit {0}} (comp_text (comp_of demo.layout.engine demo.header) ++ 10 ∷ []) parts))

pub returns : goal.returns
returns g c =
    let end = rw (c.as_bytes.ensures, c.prepend_comp.ensures, c.comp.ensures.comp, c.prepend_bytes.ensures.text, c.new-end.ensures) at c.emit-2.ensures in
    let parts = rw c.options-fields.ensures at c.in_ok-write_parts.ensures in
    Writes-after c.in_ok-emit.ensures (Writes-after parts end)
