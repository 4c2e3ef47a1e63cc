use Rattle.std.proofs.Common.{inl, inr, refl, sym, ◌∙◌}
use Rattle.std.proofs.lemmas.Bool.{true≢false}
use Rattle.lens_engines.proofs.failing.has_ending.Goals as goal

pub returns-then-has_ending_code : goal.returns-then-has_ending_code
returns-then-has_ending_code g c = (λ yes. inl (c.has_ending_code.ensures.0 c.if-has_ending_code.true), λ some. refl)

pub returns : goal.returns
returns g c = (
  (λ yes. inr (c.has_ending_warning.ensures.0 yes)),
  (λ some. elim some [
    | inl code ↦ absurd (true≢false (sym (c.has_ending_code.ensures.1 code) ∙ c.if-has_ending_code.false))
    | inr warning ↦ c.has_ending_warning.ensures.1 warning
  ]),
)
