use Rattle.std.proofs.Common.{arith, below_more, refl, sym, ap, subst, ◌∙◌}
use Rattle.std.specs.Prelude.{Contains}
use Rattle.std.proofs.lemmas.Bool.{true≢false}
use Rattle.std.proofs.lemmas.List.{get_or_default}
use Rattle.std.proofs.lemmas.List.Elements.{Contains-get_or}
use Rattle.lens_engines.specs.Warned.{Warned}
use Rattle.lens_engines.proofs.failing.has_ending_warning.Goals as goal

pub loop-i-preserved : goal.loop-i-preserved
loop-i-preserved g c =
    let warned = c.args.warned.now in
    let one = c.index-warned-i.result in
    below_more _ _ c.loop-i.invariant
    (λ d ends. true≢false (sym ends ∙ ap (λ (w : Warned). w.ends) (get_or_default warned c.loop-i.i d one c.loop-i-test.true ∙ sym c.index-warned-i.is)
    ∙ sym c.ends_game.ensures ∙ c.if-ends_game.false))

pub returns-then-ends_game : goal.returns-then-ends_game
returns-then-ends_game g c =
    let warned = c.args.warned.now in
    let one = c.index-warned-i.result in (
      (λ yes. (
        one,
        subst (Contains warned) (sym c.index-warned-i.is) (Contains-get_or warned c.loop-i.i one c.loop-i-test.true),
        sym c.ends_game.ensures ∙ c.if-ends_game.true,
      )),
      (λ some. refl),
    )

pub returns : goal.returns
returns g c = (
  (λ no. absurd (cc)),
  (λ some. absurd (c.loop-i.invariant some.1.0 (omega (arith, some.1.1, c.loop-i-test.false)) some.0 (ap (λ (w : Warned). w.ends) some.1.2 ∙ some.2))),
)
