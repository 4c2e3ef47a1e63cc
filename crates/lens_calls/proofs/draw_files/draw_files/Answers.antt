use Rattle.std.proofs.Common.{ℕ, List, Bor, length, map, arith, inl, inr, refl}
use Rattle.std.proofs.lemmas.List.{length-map}
use Rattle.std.proofs.lemmas.Result.{IfOk-weaker}
use Rattle.lens_calls.proofs.draw_files.draw_files.Goals as goal

pub refuse_at-requires-clause-there : goal.refuse_at-requires-clause-there
refuse_at-requires-clause-there g c =
    let count = length-map c.args.files.now (λ (file : Bor (List ℕ)). file.now) in
    omega (arith, c.in-Some.ensures.some.there, count, c.requires.as_many)

pub returns-in-Some-clause-drawn : goal.returns-in-Some-clause-drawn
returns-in-Some-clause-drawn g c =
    IfOk-weaker c.refuse_at.result _ _
    (λ verdict tells. inl (record { place = c.in-Some.place; large = c.in-Some.ensures.some; untouched = refl; tells = tells }))
    c.refuse_at.ensures.told

pub returns-in-None-clause-drawn : goal.returns-in-None-clause-drawn
returns-in-None-clause-drawn g c =
    IfOk-weaker c.draw_together.result _ _ (λ verdict draws. inr (record { small = c.in-None.ensures.none; draws = draws })) c.draw_together.ensures.drawn
