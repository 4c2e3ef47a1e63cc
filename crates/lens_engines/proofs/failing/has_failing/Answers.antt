use Rattle.std.proofs.Common.{inl, inr, refl, sym, ◌∙◌}
use Rattle.std.proofs.lemmas.Bool.{true≢false}
use Rattle.lens_engines.proofs.failing.has_failing.Goals as goal

pub returns-then-has_code : goal.returns-then-has_code
returns-then-has_code g c = (λ yes. inl (c.has_code.ensures.0 c.if-has_code.true), λ some. refl)

-- no code fails
pub returns-then-judging : goal.returns-then-judging
returns-then-judging g c = (
  (λ yes. inr (c.if-judging.true, c.has_ending.ensures.0 yes)),
  (λ some. elim some [
    | inl code ↦ absurd (true≢false (sym (c.has_code.ensures.1 code) ∙ c.if-has_code.false))
    | inr ends ↦ c.has_ending.ensures.1 ends.1
  ]),
)

pub returns : goal.returns
returns g c = (
  (λ no. absurd (true≢false (sym no))),
  (λ some. elim some [
    | inl code ↦ absurd (true≢false (sym (c.has_code.ensures.1 code) ∙ c.if-has_code.false))
    | inr ends ↦ absurd (true≢false (sym ends.0 ∙ c.if-judging.false))
  ]),
)
