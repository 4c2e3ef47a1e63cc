use Rattle.std.proofs.Common.{◌≡◌, ℕ, ◌+◌, ◌-◌, Err, Vec, Global, ap, ◌∙◌, arith, inl, inr, refl}
use Rattle.std.proofs.lemmas.List.{length-map}
use Rattle.look_engines.specs.Opening.{bytes_of}
use Rattle.lens_commands.proofs.FileLemmas.{first_among}
use Rattle.lens_commands.proofs.picture.run.draw_files.Goals as goal

pub overflow_sub-number : goal.overflow_sub-number
overflow_sub-number g c =
    let first = c.new.ensures.refused c.in-Err-File.number c.in-Err-File.why (c.in-Err-File.is ∙ ap Err c.in-Err-File.field-0-is) in
    let among = first_among (bytes_of c.args.files.now) c.in-Err-File.number c.in-Err-File.why first in
    rw c.in-Err-File.number-is among.0

pub tell_refused-requires-clause-there : goal.tell_refused-requires-clause-there
tell_refused-requires-clause-there g c =
    let first = c.new.ensures.refused c.in-Err-File.number c.in-Err-File.why (c.in-Err-File.is ∙ ap Err c.in-Err-File.field-0-is) in
    let among = first_among (bytes_of c.args.files.now) c.in-Err-File.number c.in-Err-File.why first in
    let count = length-map c.args.files.now (λ (file : Vec ℕ Global). file.items) in
    rw c.in-Err-File.number-is (omega (arith, among.1, count, c.requires.as_many))

pub returns-in-Err-File : goal.returns-in-Err-File
returns-in-Err-File g c =
    let first = c.new.ensures.refused c.in-Err-File.number c.in-Err-File.why (c.in-Err-File.is ∙ ap Err c.in-Err-File.field-0-is) in
    let among = first_among (bytes_of c.args.files.now) c.in-Err-File.number c.in-Err-File.why first in
    let number : c.in-Err-File.number - 1 + 1 ≡ c.in-Err-File.number = omega (arith, among.0) in
    let tells = rw (c.in-Err-File.number-is, c.in-Err-File.why-is) at c.tell_refused.ensures in
    inr (inl (record {
      index = c.in-Err-File.number - 1;
      why = c.in-Err-File.why;
      refuses = rw number first;
      tells = tells;
      untouched = refl;
      ended = refl;
    }))
