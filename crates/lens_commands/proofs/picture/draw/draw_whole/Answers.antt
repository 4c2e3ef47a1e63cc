use Rattle.std.proofs.Common.{inr}
use Rattle.lens_commands.proofs.DrawLemmas.{drawn_whole}
use Rattle.lens_commands.proofs.picture.draw.draw_whole.Goals as goal

pub returns-in-Ok : goal.returns-in-Ok
returns-in-Ok g c =
    inr (inr (drawn_whole g.O.Write.contents c.args.level.now c.args.question.now.drawn c.args.out.now c.draw_level.new.out (g.E.Sink.state c.args.errors.now) c.drawn_verdict.result
    (record { faulty = c.in-Ok.faulty; says = c.in-Ok.ensures.faulty; is = c.drawn_verdict.ensures }) c.write_rest.new.out c.write_rest.result c.in-Ok.ensures.drawn c.write_rest.ensures))
