use Rattle.std.specs.Prelude.{codes}
use Rattle.std.proofs.Common.{◌++◌}
use Rattle.level_codes.specs.Codes.{finding_codes}
use Rattle.lens_engines.specs.Objects.{counts_text}
use Rattle.std.proofs.lemmas.Result.{err_from_is_err_and}
use Rattle.line_io.proofs.WriteLemmas.{Writes-stop}
use Rattle.lens_texts.proofs.WritingLemmas.{Writes-after}
use Rattle.lens_engines.proofs.object.write_found.Goals as goal

pub returns-in_err-write_sound : goal.returns-in_err-write_sound
returns-in_err-write_sound g c =
    let p = err_from_is_err_and c.from_residual.result c.from_residual.ensures.1 in
    rw (p.1, p.2) (Writes-stop ((codes ",\"findings\":{" ++ (counts_text c.args.counts.now finding_codes ++ codes "}"))) (rw (c.faults.ensures, c.notes.ensures) at c.in_err-write_sound.ensures))

pub returns : goal.returns
returns g c = Writes-after (rw (c.faults.ensures, c.notes.ensures) at c.in_ok-write_sound.ensures) c.write_findings.ensures
