use Rattle.std.proofs.Common.{rules, ◌≢◌, ◌∙◌, Err, map, string_bytes, inl, refl, subst, ap}
use Rattle.std.proofs.lemmas.Result.{err_from_is_err_and}
use Rattle.look_engines.specs.Opening.{bytes_of}
use Rattle.look_engines.specs.declared.command.Cmd.TheVariants.{Lmp}
use Rattle.wadlook.proofs.ProgramLemmas.{job_refuses, paths_refuse}
use Rattle.line_io.specs.Storage.{AreHeld}
use Rattle.wadlook.specs.declared.refusal.ProgramRefusal.TheVariants.{Usage}
use Rattle.wadlook.proofs.program.do_words.Goals as goal

pub returns-in_default : goal.returns-in_default
returns-in_default g c = inl (record {
  refusal = Usage;
  ended = refl;
  holds = λ job asked. c.in_default.not-Some job ((c.job.ensures job).1 asked);
})

pub returns-in_err-files : goal.returns-in_err-files
returns-in_err-files g c =
    let p = err_from_is_err_and c.from_residual.result c.from_residual.ensures.1 in
    let job = c.in-Some.job in
    let held = g.D.Storage.held c.args.storage.now in
    let other : job.command ≢ Lmp = search rules in
    inl (record {
      refusal = c.in_err-files.field-0.0;
      ended = p.1 ∙ ap Err p.2;
      holds = job_refuses held (map string_bytes c.args.words.now) job c.in_err-files.field-0.0 ((c.job.ensures job).0 c.in-Some.is)
          (paths_refuse held (map string_bytes c.paths.result.now) (map string_bytes c.args.words.now) job c.in_err-files.field-0.0 other c.paths.ensures c.in_err-files.ensures.refused);
    })

pub returns : goal.returns
returns g c =
    let job = c.in-Some.job in
    let read = subst (λ ps. AreHeld (g.D.Storage.held c.args.storage.now) ps (bytes_of c.in_ok-files.files.items)) c.paths.ensures c.in_ok-files.ensures.held in
    let other : job.command ≢ Lmp = search rules in
    search rules
