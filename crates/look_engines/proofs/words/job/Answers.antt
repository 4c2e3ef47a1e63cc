use Rattle.std.proofs.Common.{Some, map, string_bytes, ◌≡◌, ◌+◌, ◌-◌, length, sym, ◌∙◌, ap, subst, refl, arith}
use Rattle.std.proofs.lemmas.List.{length-map}
use Rattle.std.proofs.lemmas.List.Elements.{All-map}
use Rattle.look_engines.specs.Words.{IsJob, IsPlain}
use Rattle.look_engines.proofs.WordsLemmas.{IsRead, IsTaken, job_of, only_job, is_job, All-unmap}
use Rattle.look_engines.proofs.words.job.Goals as goal

pub returns-then-not-takes : goal.returns-then-not-takes
returns-then-not-takes g c = λ job.
    let texts = map string_bytes c.args.words.now in
    let operands = map string_bytes c.after_wide-wide.result.1.now in
    let in_order = ap (map string_bytes) c.in_ok-word.ensures.cases.0 in
    let word_is = c.as_str.ensures.value in
    let read : IsRead texts c.in_ok-command.command c.form-form.result c.after_wide-wide.result.0 operands = record {
      word = c.as_str.result.now;
      rest = map string_bytes c.in_ok-word.rest.now;
      in_order = cc;
      named = c.in_ok-command.ensures;
      form_is = c.form-form.ensures.is;
      split = record {
        spelled = c.after_wide-wide.ensures.spelled;
        may_be_wide = c.after_wide-wide.ensures.allowed;
        absent = c.after_wide-wide.ensures.absent;
      };
    } in
    let operands_count = length-map c.after_wide-wide.result.1.now string_bytes in (
      (λ e. absurd cc),
      λ j.
          let taken = (only_job _ _ _ _ _ read job j).0 in
          let some_file = taken.some_file in
          let few_files = taken.few_files in
          let told = c.if-not-takes.ensures.1 (omega arith, omega arith, All-unmap string_bytes _ taken.plain) in
          absurd cc,
    )

pub returns : goal.returns
returns g c = λ job.
    let texts = map string_bytes c.args.words.now in
    let operands = map string_bytes c.after_wide-wide.result.1.now in
    let in_order = ap (map string_bytes) c.in_ok-word.ensures.cases.0 in
    let word_is = c.as_str.ensures.value in
    let read : IsRead texts c.in_ok-command.command c.form-form.result c.after_wide-wide.result.0 operands = record {
      word = c.as_str.result.now;
      rest = map string_bytes c.in_ok-word.rest.now;
      in_order = cc;
      named = c.in_ok-command.ensures;
      form_is = c.form-form.ensures.is;
      split = record {
        spelled = c.after_wide-wide.ensures.spelled;
        may_be_wide = c.after_wide-wide.ensures.allowed;
        absent = c.after_wide-wide.ensures.absent;
      };
    } in
    let words_count = length-map c.args.words.now string_bytes in
    let operands_count = length-map c.after_wide-wide.result.1.now string_bytes in
    let told = c.if-not-takes.ensures.0 refl in
    let taken : IsTaken c.form-form.result operands = record {
      some_file = omega arith;
      few_files = omega arith;
      plain = All-map IsPlain string_bytes _ told.2;
    } in
    let made : job_of texts c.in_ok-command.command c.form-form.result.names operands c.after_wide-wide.result.0
    ≡ record { command = c.in_ok-command.command; first = length c.args.words.now - length c.after_wide-wide.result.1.now + c.form-form.result.names; wide = c.after_wide-wide.result.0 } =
    rw (words_count, operands_count) refl in (
      (λ e. let same : job_of texts c.in_ok-command.command c.form-form.result.names operands c.after_wide-wide.result.0 ≡ job = cc in subst (IsJob texts) same (is_job _ _ _ _ _ read taken)),
      λ j. ap Some (sym made ∙ (only_job _ _ _ _ _ read job j).1),
    )
