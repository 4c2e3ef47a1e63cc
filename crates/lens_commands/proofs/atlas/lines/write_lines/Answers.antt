use Rattle.std.proofs.lemmas.Result.{err_from_is_err_and}
use Rattle.lens_commands.proofs.LinesLemmas.{lines_more, lines_none, lines_stopped}
use Rattle.lens_commands.proofs.atlas.lines.write_lines.Goals as goal

pub loop-row-init : goal.loop-row-init
loop-row-init g c = lines_none (g.W.Sink.state c.args.survey.now) c.requires

pub loop-row-preserved : goal.loop-row-preserved
loop-row-preserved g c =
    let more = lines_more c.args.rows.now c.loop-row.row-index c.row-item.result (g.W.Sink.state c.args.survey.now) (g.W.Sink.state c.loop-row.survey) (g.W.Sink.state c.write_line.new.survey)
    c.loop-row.worst c.loop-row-test.true c.row-item.is c.loop-row.invariant c.in_ok-write_line.ensures in
    rw (c.graver-worst.ensures, c.verdict.ensures) more

pub returns-in_err-write_line-clause-some : goal.returns-in_err-write_line-clause-some
returns-in_err-write_line-clause-some g c =
    let p = err_from_is_err_and c.from_residual.result c.from_residual.ensures.1 in
    let some = lines_stopped c.args.rows.now c.loop-row.row-index c.row-item.result (g.W.Sink.state c.args.survey.now) (g.W.Sink.state c.loop-row.survey) (g.W.Sink.state c.write_line.new.survey)
    c.loop-row.worst c.loop-row-test.true c.row-item.is c.loop-row.invariant c.in_err-write_line.ensures in
    rw p.1 some
