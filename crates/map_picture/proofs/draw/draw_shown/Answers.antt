use Rattle.std.proofs.Common.{refl}
use Rattle.line_io.proofs.WriteLemmas.{line_stopped}
use Rattle.map_picture.specs.Picture.{picture_text}
use Rattle.map_picture.proofs.draw.draw_shown.Goals as goal

pub returns-in-Ok-clause-drawn : goal.returns-in-Ok-clause-drawn
returns-in-Ok-clause-drawn g c =
    let wrote = rw (c.frame.ensures, c.size.ensures.value) at c.in-Ok.ensures in
    record {
      text = picture_text c.args.counted.now wrote.found c.args.grid.frame c.args.grid.size c.args.shown.now c.args.marked.now;
      is = record { found = wrote.found; audited = wrote.audited; is = refl };
      whole = wrote.writes.takes.whole;
      sound = wrote.writes.ends.sound;
    }

pub returns-in-Err-clause-stopped : goal.returns-in-Err-clause-stopped
returns-in-Err-clause-stopped g c =
    let wrote = rw (c.frame.ensures, c.size.ensures.value) at c.in-Err.ensures in
    record {
      text = picture_text c.args.counted.now wrote.found c.args.grid.frame c.args.grid.size c.args.shown.now c.args.marked.now;
      is = record { found = wrote.found; audited = wrote.audited; is = refl };
      front = wrote.writes.takes.front;
      failed = line_stopped _ _ _ _ wrote.writes;
    }
