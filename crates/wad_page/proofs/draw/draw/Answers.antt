use Rattle.std.proofs.Common.{inr, refl, rules}
use Rattle.wad_page.proofs.draw.draw.Goals as goal

pub returns : goal.returns
returns c =
    inr (record {
      view = c.in-Some.view;
      is = c.in-Some.ensures.some;
      sink = c.in_ok-sink.sink;
      sink' = c.draw_first-outcome.new.out;
      empty = search rules;
      outcome = c.draw_first-outcome.result;
      room = search rules;
      drawn = rw c.reading_of.ensures at c.draw_first-outcome.ensures.drawn;
      refused = rw c.reading_of.ensures at c.draw_first-outcome.ensures.refused;
      status = c.draw_status.ensures;
      picture = search rules;
      silent = refl;
    })
