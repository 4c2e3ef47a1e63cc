use Rattle.std.proofs.Common.{inl, inr, refl, subst}
use Rattle.lens_reports.specs.Files.{RefusesRead}
use Rattle.lens_commands.proofs.assemble.run_assemble.Goals as goal

pub returns-in-Err-Refused : goal.returns-in-Err-Refused
returns-in-Err-Refused g c =
    let why = subst (RefusesRead (g.I.Read.remaining c.args.reader)) c.in-Err-Refused.field-0-is c.in-Err-Refused.ensures.refused in
    let wrote = rw c.in-Err-Refused.refusal-is at c.write_refusal.ensures in
    inr (inl (record { refusal = c.in-Err-Refused.refusal; why = why; outcome = c.write_refusal.result; told = wrote; untouched = refl; ended = refl }))
