use Rattle.std.proofs.Common.{Ok, ap, inl, refl}
use Rattle.lens_commands.proofs.picture.draw.draw_at.Goals as goal

pub returns-in-Some : goal.returns-in-Some
returns-in-Some g c = inl (record {
  unread = c.in-Some.unread;
  is = c.in-Some.ensures.unread;
  tells = record {
    told = (c.write_format.result, c.write_format.ensures);
    untouched = refl;
    ends = ap Ok c.verdict_of_format.ensures;
  };
})
