use Rattle.std.proofs.Common.{subst}
use Rattle.std.proofs.lemmas.Result.{err_from_is_err_and}
use Rattle.line_io.specs.Writes.{WriteFault}
use Rattle.line_io.proofs.BlockLemmas.{Answered-none}
use Rattle.line_io.proofs.FrontLemmas.{Answered-front_stop, Answered-more}
use Rattle.look_engines.proofs.engines.PointsLemmas.{front_of_lines, lines_told}
use Rattle.look_engines.proofs.engines.points.PointCommandLineCommand.reply_front.Goals as goal

pub fours-init : goal.fours-init
fours-init g c = record { sound = c.requires.sound; so_far = Answered-none _ _ _ _ }

pub fours-preserved : goal.fours-preserved
fours-preserved g c =
    let names = c.in-Some.ensures in
    record {
      sound = c.in_ok-put_four.ensures.ends.sound;
      so_far =
          Answered-more c.fours.invariant.so_far names.begins.done c.in-Some.after.now _ names.begins.joined names.begins.whole
          (λ f told. rw (lines_told _ f told _ _ _ names) (c.in_ok-put_four.ensures.takes told.leaf_of told.are_leaves).whole);
    }

pub returns-in_err-put_four-clause-answered : goal.returns-in_err-put_four-clause-answered
returns-in_err-put_four-clause-answered g c =
    let p = err_from_is_err_and c.from_residual.result c.from_residual.ensures.1 in
    let names = c.in-Some.ensures in
    rw (p.1, p.2)
    (λ f told. record {
      whole = tt;
      front =
          Answered-front_stop c.fours.invariant.so_far _ f told
          (front_of_lines _ f told _ _ _ names (c.in_err-put_four.ensures.takes told.leaf_of told.are_leaves).front);
      unbroken = λ is. absurd (subst (WriteFault (g.W.Sink.state c.put_four.new.out)) is c.in_err-put_four.ensures.ends.fault);
    })
