use Rattle.std.proofs.Common.{refl}
use Rattle.wad_page.proofs.draw.draw_entry.Goals as goal

pub returns-in-Ok-draw_level-clause-drawn : goal.returns-in-Ok-draw_level-clause-drawn
returns-in-Ok-draw_level-clause-drawn g c = record {
  level = c.in-Ok.level;
  there = (c.in-Ok.ensures.level c.in-Ok.level).0 refl;
  takes = c.in-Ok-draw_level.ensures.drawn;
  says = c.in-Ok-draw_level.ensures.faulty;
}
