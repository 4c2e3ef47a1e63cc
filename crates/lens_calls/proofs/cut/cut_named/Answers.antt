use Rattle.std.proofs.Common.{inr, refl}
use Rattle.std.proofs.lemmas.Result.{IfOk-weaker}
use Rattle.lens_calls.proofs.cut.cut_named.Goals as goal

pub returns-in-Some-clause-cut : goal.returns-in-Some-clause-cut
returns-in-Some-clause-cut g c =
    IfOk-weaker c.cut_bytes.result _ _
    (λ verdict cuts. inr (inr (record {
      files = c.in-Ok.set;
      of_bytes = c.in-Ok.ensures.bytes;
      read = c.in-Ok.ensures.read;
      entry = c.in-Some.g;
      wins = rw c.query.ensures at c.in-Some.ensures.some;
      cuts = cuts;
    })))
    c.cut_bytes.ensures.cut
