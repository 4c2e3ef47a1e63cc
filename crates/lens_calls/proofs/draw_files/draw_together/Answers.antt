use Rattle.std.proofs.Common.{◌≡◌, ℕ, ◌+◌, ◌-◌, List, Bor, Err, length, map, ap, ◌∙◌, arith, inl, inr, refl}
use Rattle.std.proofs.lemmas.List.{length-map}
use Rattle.std.proofs.lemmas.Result.{IfOk-weaker}
use Rattle.lens_calls.proofs.FileLemmas.{first_among}
use Rattle.lens_calls.proofs.draw_files.draw_together.Goals as goal

pub overflow_sub-number : goal.overflow_sub-number
overflow_sub-number g c =
    let first = c.new.ensures.refused c.in-Err-File.number c.in-Err-File.why (c.in-Err-File.is ∙ ap Err c.in-Err-File.field-0-is) in
    let among = first_among (map (λ (file : Bor (List ℕ)). file.now) c.args.files.now) c.in-Err-File.number c.in-Err-File.why first in
    rw c.in-Err-File.number-is among.0

pub refuse_at-requires-clause-there : goal.refuse_at-requires-clause-there
refuse_at-requires-clause-there g c =
    let first = c.new.ensures.refused c.in-Err-File.number c.in-Err-File.why (c.in-Err-File.is ∙ ap Err c.in-Err-File.field-0-is) in
    let among = first_among (map (λ (file : Bor (List ℕ)). file.now) c.args.files.now) c.in-Err-File.number c.in-Err-File.why first in
    let count = length-map c.args.files.now (λ (file : Bor (List ℕ)). file.now) in
    rw c.in-Err-File.number-is (omega (arith, among.1, count, c.requires.as_many))

pub returns-in-Err-File-clause-drawn : goal.returns-in-Err-File-clause-drawn
returns-in-Err-File-clause-drawn g c =
    let first = c.new.ensures.refused c.in-Err-File.number c.in-Err-File.why (c.in-Err-File.is ∙ ap Err c.in-Err-File.field-0-is) in
    let among = first_among (map (λ (file : Bor (List ℕ)). file.now) c.args.files.now) c.in-Err-File.number c.in-Err-File.why first in
    let number : c.in-Err-File.number - 1 + 1 ≡ c.in-Err-File.number = omega (arith, among.0) in
    IfOk-weaker c.refuse_at.result _ _
    (λ verdict tells. inl (record {
      place = c.in-Err-File.number - 1;
      why = c.in-Err-File.why;
      refuses = rw number first;
      untouched = refl;
      tells = tells;
    }))
    (rw (c.in-Err-File.number-is, c.in-Err-File.why-is) at c.refuse_at.ensures.told)

pub returns-in-Ok-clause-drawn : goal.returns-in-Ok-clause-drawn
returns-in-Ok-clause-drawn g c =
    IfOk-weaker c.draw_named.result _ _
    (λ verdict draws. inr (record { wads = c.in-Ok.set; of_files = c.in-Ok.ensures.bytes; read = c.in-Ok.ensures.read; draws = draws }))
    c.draw_named.ensures.drawn
