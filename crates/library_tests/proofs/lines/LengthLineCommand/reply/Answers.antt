use Rattle.std.proofs.Common.{◌≡◌, ◌∷◌, [], decimal, inl, length, refl, ◌∙◌}
use Rattle.std.proofs.lemmas.Result.{err_from_is_err_and}
use Rattle.line_io.proofs.WriteLemmas.{Writes-stop, Writes-then}
use Rattle.library_tests.proofs.lines.LengthLineCommand.reply.Goals as goal

pub returns-in_err-emit : goal.returns-in_err-emit
returns-in_err-emit g c =
    let p = err_from_is_err_and c.from_residual.result c.from_residual.ensures.1 in
    let text : c.as_bytes.result.now ≡ decimal (length c.args.content.now) =
    c.as_bytes.ensures.value ∙ c.format.ensures.text in
    let stopped = Writes-stop (10 ∷ []) (rw text at c.in_err-emit.ensures) in
    rw (p.1, p.2) (record {
      takes = λ answer told. rw (told c.args.content.now) stopped.takes;
      ends = inl stopped.ends;
      same = refl;
    })

pub returns : goal.returns
returns g c =
    let text : c.as_bytes.result.now ≡ decimal (length c.args.content.now) =
    c.as_bytes.ensures.value ∙ c.format.ensures.text in
    let wrote =
    Writes-then _ _ _ _ c.emit-2.result
    (rw text at c.in_ok-emit.ensures).takes.whole c.emit-2.ensures in
    record { takes = λ answer told. rw (told c.args.content.now) wrote.takes; ends = inl wrote.ends; same = refl }
