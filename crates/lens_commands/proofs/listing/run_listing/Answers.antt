use Rattle.std.proofs.Common.{inr, refl}
use Rattle.lens_commands.proofs.listing.run_listing.Goals as goal

pub returns-in_default : goal.returns-in_default
returns-in_default g c =
    inr (record {
      given = c.in_ok-given.given;
      is = c.in_ok-given.ensures.given;
      does = inr (record { none = c.in_default.ensures.none; told = c.refuse.ensures.told; untouched = refl; ended = c.refuse.ensures.ended });
    })
