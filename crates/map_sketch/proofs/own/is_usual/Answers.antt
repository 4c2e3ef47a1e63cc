use Rattle.std.proofs.Common.{◌∙◌, sym, refl, arith}
use Rattle.map_sketch.proofs.own.is_usual.Goals as goal

pub returns-then-is_named : goal.returns-then-is_named
returns-then-is_named g c = (
  (λ yes. record {
    place = c.loop-place.place;
    from = omega arith;
    to = omega arith;
    named = c.is_named.ensures.0 c.if-is_named.true ∙ sym c.usual_name.ensures;
  }),
  (λ usual. refl),
)

pub returns : goal.returns
returns g c = (
  (λ yes. absurd (cc)),
  (λ usual. let to = usual.to in absurd (c.loop-place.invariant usual.place usual.from (omega (arith, to, c.loop-place-test.false)) usual.named)),
)
