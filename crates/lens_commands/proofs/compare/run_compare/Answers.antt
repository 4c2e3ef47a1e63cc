use Rattle.std.proofs.Common.{inl, inr, refl}
use Rattle.lens_commands.proofs.compare.run_compare.Goals as goal

pub returns-in_default : goal.returns-in_default
returns-in_default g c =
    inr (record {
      given_a = c.in_ok-a.a;
      given_b = c.in_ok-b.b;
      is_a = c.in_ok-a.ensures.given;
      is_b = c.in_ok-b.ensures.given;
      does = inr (record { none = inl c.in_default.ensures.none; told = c.refuse.ensures.told; untouched = refl; ended = c.refuse.ensures.ended });
    })

pub returns-in_default-demo : goal.returns-in_default-demo
returns-in_default-demo g c =
    inr (record {
      given_a = c.in_ok-a.a;
      given_b = c.in_ok-b.b;
      is_a = c.in_ok-a.ensures.given;
      is_b = c.in_ok-b.ensures.given;
      does = inr (record { none = inr c.in_default-demo.ensures.none; told = c.refuse-in_default-demo.ensures.told; untouched = refl; ended = c.refuse-in_default-demo.ensures.ended });
    })
