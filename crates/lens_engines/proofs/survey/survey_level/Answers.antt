use Rattle.std.proofs.Common.{inl, inr, refl}
use Rattle.lens_engines.specs.Survey.{verdict_of}
use Rattle.lens_engines.specs.Surveyed.{survey_line}
use Rattle.lens_engines.proofs.survey.survey_level.Goals as goal

pub returns-in_default : goal.returns-in_default
returns-in_default g c = inl (record { doom = c.in_default.ensures.doom; wants = record { ended = refl; untouched = refl } })

pub returns : goal.returns
returns g c =
    let name = c.label_of-name.result in
    let surveyed = c.in-Ok.surveyed in
    inr (record {
      told = record { line = survey_line c.args.path.now name c.args.g surveyed; verdict = verdict_of surveyed };
      is = record { surveyed = surveyed; is = c.in-Ok.ensures.found; name = name; named = c.label_of-name.ensures; line = refl; says = refl };
      writes = record { outcome = c.write_surveyed.result; writes = c.write_surveyed.ensures; ended = rw c.verdict.ensures at c.line_end.ensures };
    })
