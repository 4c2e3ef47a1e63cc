use Rattle.std.proofs.Common.{inl, refl, rules}
use Rattle.lens_commands.proofs.picture.draw.draw_named.Goals as goal

pub returns-in-None : goal.returns-in-None
returns-in-None g c = inl (record {
  none = search rules;
  tells = record {
    told = (c.write_named.result, c.write_named.ensures);
    untouched = refl;
    ends = refl;
  };
})
