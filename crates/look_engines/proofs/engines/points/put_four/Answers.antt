use Rattle.std.proofs.lemmas.List.{append-nil}
use Rattle.std.proofs.lemmas.Result.{err_from_is_err_and}
use Rattle.line_io.proofs.WriteLemmas.{TakesText-stop, TakesText-then}
use Rattle.look_engines.proofs.engines.PointsLemmas.{four_lie, told_takes}
use Rattle.look_engines.proofs.engines.points.put_four.Goals as goal

pub returns-in_err-put_point-clause-takes : goal.returns-in_err-put_point-clause-takes
returns-in_err-put_point-clause-takes g c =
    let p = err_from_is_err_and c.from_residual.result c.from_residual.ensures.1 in
    let lies = four_lie _ _ _ _ _ _ (0, 0) (0, 0) (0, 0) (0, 0) c.leaves.ensures in
    rw (p.1, p.2) (λ leaf_of are.
    TakesText-stop _ (told_takes _ leaf_of c.args.a _ _ are lies.0 c.leaf_from.ensures.ssector c.leaf_from.ensures.sector c.in_err-put_point.ensures.takes))

pub returns-in_err-put_point-2-clause-takes : goal.returns-in_err-put_point-2-clause-takes
returns-in_err-put_point-2-clause-takes g c =
    let p = err_from_is_err_and c.from_residual-in_err-put_point-2.result c.from_residual-in_err-put_point-2.ensures.1 in
    let lies = four_lie _ _ _ _ _ _ (0, 0) (0, 0) (0, 0) (0, 0) c.leaves.ensures in
    rw (p.1, p.2) (λ leaf_of are.
    TakesText-then (g.W.Sink.state c.args.out.now) (g.W.Sink.state c.put_point.new.out) _ _ _ (told_takes _ leaf_of c.args.a _ _ are lies.0 c.leaf_from.ensures.ssector c.leaf_from.ensures.sector c.in_ok-put_point.ensures.takes).whole (
    TakesText-stop _ (told_takes _ leaf_of c.args.b _ _ are lies.1 c.leaf_from-2.ensures.ssector c.leaf_from-2.ensures.sector c.in_err-put_point-2.ensures.takes)))

pub returns-in_err-put_point-3-clause-takes : goal.returns-in_err-put_point-3-clause-takes
returns-in_err-put_point-3-clause-takes g c =
    let p = err_from_is_err_and c.from_residual-in_err-put_point-3.result c.from_residual-in_err-put_point-3.ensures.1 in
    let lies = four_lie _ _ _ _ _ _ (0, 0) (0, 0) (0, 0) (0, 0) c.leaves.ensures in
    rw (p.1, p.2) (λ leaf_of are.
    TakesText-then (g.W.Sink.state c.args.out.now) (g.W.Sink.state c.put_point.new.out) _ _ _ (told_takes _ leaf_of c.args.a _ _ are lies.0 c.leaf_from.ensures.ssector c.leaf_from.ensures.sector c.in_ok-put_point.ensures.takes).whole (
    TakesText-then (g.W.Sink.state c.put_point.new.out) (g.W.Sink.state c.put_point-2.new.out) _ _ _ (told_takes _ leaf_of c.args.b _ _ are lies.1 c.leaf_from-2.ensures.ssector c.leaf_from-2.ensures.sector c.in_ok-put_point-2.ensures.takes).whole (
    TakesText-stop _ (told_takes _ leaf_of c.args.c _ _ are lies.2 c.leaf_from-3.ensures.ssector c.leaf_from-3.ensures.sector c.in_err-put_point-3.ensures.takes))))

pub returns-clause-takes : goal.returns-clause-takes
returns-clause-takes g c =
    let lies = four_lie _ _ _ _ _ _ (0, 0) (0, 0) (0, 0) (0, 0) c.leaves.ensures in
    λ leaf_of are.
    TakesText-then (g.W.Sink.state c.args.out.now) (g.W.Sink.state c.put_point.new.out) _ _ _ (told_takes _ leaf_of c.args.a _ _ are lies.0 c.leaf_from.ensures.ssector c.leaf_from.ensures.sector c.in_ok-put_point.ensures.takes).whole (
    TakesText-then (g.W.Sink.state c.put_point.new.out) (g.W.Sink.state c.put_point-2.new.out) _ _ _ (told_takes _ leaf_of c.args.b _ _ are lies.1 c.leaf_from-2.ensures.ssector c.leaf_from-2.ensures.sector c.in_ok-put_point-2.ensures.takes).whole (
    TakesText-then (g.W.Sink.state c.put_point-2.new.out) (g.W.Sink.state c.put_point-3.new.out) _ _ _ (told_takes _ leaf_of c.args.c _ _ are lies.2 c.leaf_from-3.ensures.ssector c.leaf_from-3.ensures.sector c.in_ok-put_point-3.ensures.takes).whole (
    rw append-nil (told_takes _ leaf_of c.args.d _ _ are lies.3 c.leaf_from-4.ensures.ssector c.leaf_from-4.ensures.sector c.put_point-4.ensures.takes))))
