use Rattle.std.specs.Prelude.{codes}
use Rattle.std.proofs.Common.{◌≡◌, ◌++◌, ℕ, List, Result, Ok, Err, decimal, refl, subst}
use Rattle.std.proofs.lemmas.List.{append_assoc}
use Rattle.std.proofs.lemmas.Result.{err_from_is_err_and}
use Rattle.demo_engines.specs.declared.assembly.Wanted.{Wanted}
use Rattle.le_rec.specs.Sink.{SinkState}
use Rattle.line_io.proofs.WriteLemmas.{Writes-stop}
use Rattle.line_io.specs.Writes.{Writes}
use Rattle.line_io.specs.declared.fault.IoFault.{IoFault}
use Rattle.lens_texts.proofs.WritingLemmas.{Writes-after}
use Rattle.lens_commands.specs.AssembleJob.{line_text, wanted_text}
use Rattle.lens_commands.proofs.assemble.write_wrong_line.Goals as goal

abbrev front_text : ℕ → List ℕ
front_text number = codes "wadlens: standard input: line " ++ (decimal number ++ codes " is no line of a listing: ")

abbrev end_text : Wanted → List ℕ
end_text wanted = wanted_text wanted ++ codes "\n"

both : (label digits middle end : List ℕ) → (label ++ (digits ++ middle)) ++ end ≡ label ++ (digits ++ (middle ++ end))
both label digits middle end = simp append_assoc refl

joined : (number : ℕ) (wanted : Wanted) → front_text number ++ end_text wanted ≡ line_text number wanted
joined number wanted = both (codes "wadlens: standard input: line ") (decimal number) (codes " is no line of a listing: ") (end_text wanted)

stopped : (before after : SinkState) (number : ℕ) (wanted : Wanted) (e : IoFault) → Writes {T = Unit {0}} before after (front_text number) (Err e)
    → Writes {T = Unit {0}} before after (line_text number wanted) (Err e)
stopped before after number wanted e wrote = subst (λ t. Writes {T = Unit {0}} before after t (Err e)) (joined number wanted) (Writes-stop (end_text wanted) wrote)

whole : (before between after : SinkState) (number : ℕ) (wanted : Wanted) (x : Unit {0}) (result : Result (Unit {0}) IoFault) → Writes before between (front_text number) (Ok x)
    → Writes between after (end_text wanted) result → Writes before after (line_text number wanted) result
whole before between after number wanted x result first next = subst (λ t. Writes before after t result) (joined number wanted) (Writes-after first next)

pub returns-in_err-emit : goal.returns-in_err-emit
returns-in_err-emit g c =
    let p = err_from_is_err_and c.from_residual.result c.from_residual.ensures.1 in
    let front = rw (c.as_bytes.ensures, c.prepend_wrong_line.ensures) at c.in_err-emit.ensures in
    rw (p.1, p.2) (stopped (g.E.Sink.state c.args.errors.now) (g.E.Sink.state c.emit.new.out) c.args.number c.args.wanted _ front)

pub returns : goal.returns
returns g c =
    let front = rw (c.as_bytes.ensures, c.prepend_wrong_line.ensures) at c.in_ok-emit.ensures in
    let end = rw (c.as_bytes-2.ensures, c.prepend_wanted.ensures, c.prepend_bytes.ensures.text, c.new-end.ensures) at c.emit-2.ensures in
    whole (g.E.Sink.state c.args.errors.now) (g.E.Sink.state c.emit.new.out) (g.E.Sink.state c.emit-2.new.out) c.args.number c.args.wanted _ c.emit-2.result front end
