use Rattle.std.proofs.Common.{inl, inr, refl, rules, subst}
use Rattle.lens_reports.specs.Files.{RefusesRead}
use Rattle.lens_reports.proofs.cut.run_cut.Goals as goal

pub returns-in-Err-Refused : goal.returns-in-Err-Refused
returns-in-Err-Refused g c =
    let why = subst (RefusesRead (g.S.Storage.held c.args.storage.now c.args.path.now)) c.in-Err-Refused.field-0-is c.in-Err-Refused.ensures.refused in
    let wrote = rw c.in-Err-Refused.refusal-is at c.write_refusal.ensures in
    inr (inl (record { refusal = c.in-Err-Refused.refusal; why = why; told = (c.write_refusal.result, wrote); untouched = refl; ended = refl }))

pub returns-in-Ok : goal.returns-in-Ok
returns-in-Ok g c = inr (inr (record { bytes = c.deref.result.now; are = search rules; few = search rules; cuts = c.cut_asked.ensures }))
