use Rattle.std.proofs.Common.{inl, inr, refl}
use Rattle.std.proofs.lemmas.Result.{IfOk-weaker}
use Rattle.lens_calls.proofs.draw.draw_named.Goals as goal

pub returns-in-Some-clause-drawn : goal.returns-in-Some-clause-drawn
returns-in-Some-clause-drawn g c =
    IfOk-weaker c.draw_at.result _ _
    (λ verdict draws. inr (record { entry = c.in-Some.g; wins = rw c.query.ensures at c.in-Some.ensures.some; draws = draws }))
    c.draw_at.ensures.drawn

pub returns-in-Ok-clause-drawn : goal.returns-in-Ok-clause-drawn
returns-in-Ok-clause-drawn g c = inl (record {
  none = rw c.query.ensures at c.in-None.ensures.none;
  tells = record { untouched = refl; message = c.in-Ok.ensures.takes.whole; says = refl };
})
