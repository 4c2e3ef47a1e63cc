use Rattle.std.proofs.Common.{Err, inl, inr, refl, ap, ◌∙◌}
use Rattle.lens_reports.proofs.cut.cut_named.Goals as goal

pub returns-in-Some : goal.returns-in-Some
returns-in-Some g c = inr (inr (inr (record {
  files = c.in-Ok.set;
  of_bytes = c.in-Ok.ensures.bytes;
  read = c.in-Ok.ensures.read;
  entry = c.in-Some.g;
  wins = rw c.query.ensures at c.in-Some.ensures.some;
  cuts = c.cut_bytes.ensures;
})))

pub returns : goal.returns
returns g c =
    let refused = c.one.ensures.refused _ c.in-Err-File.why (c.in-Err-File.is ∙ ap Err c.in-Err-File.field-0-is) in
    let wrote = rw c.in-Err-File.why-is at c.write_cut_line.ensures in
    inr (inl (record {
      why = c.in-Err-File.why;
      refuses = refused.1;
      told = (c.write_cut_line.result, wrote);
      untouched = refl;
      ended = refl;
    }))
