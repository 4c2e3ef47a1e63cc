use Rattle.std.proofs.Common.{inl, inr, refl, rules}
use Rattle.lens_reports.proofs.CutLemmas.{cut_refused, cut_stopped, cut_wanting, cut_written, of_file}
use Rattle.lens_reports.proofs.cut.cut_bytes.Goals as goal

pub returns-in-Ok : goal.returns-in-Ok
returns-in-Ok g c =
    inr (inr (cut_written g.O.Write.contents c.args.bytes.now c.args.entry c.args.out.now c.cut_level.new.out (g.E.Sink.state c.args.errors.now) c.write_rest.new.out _ c.write_rest.result
    c.in-Ok.ensures.runs c.write_rest.ensures))

pub returns-in-Err-Write : goal.returns-in-Err-Write
returns-in-Err-Write g c =
    let runs = rw c.in-Err-Write.field-0-is at c.in-Err-Write.ensures.runs in
    inr (inr (cut_stopped g.O.Write.contents c.args.bytes.now c.args.entry c.args.out.now c.cut_level.new.out (g.E.Sink.state c.args.errors.now) c.output_end.result runs c.output_end.ensures))

pub returns-in-Err-Memory : goal.returns-in-Err-Memory
returns-in-Err-Memory g c =
    let runs = rw c.in-Err-Memory.field-0-is at c.in-Err-Memory.ensures.runs in
    inl (record {
      untouched = cut_wanting g.O.Write.contents c.args.bytes.now c.args.entry c.args.out.now c.cut_level.new.out (g.E.Sink.state c.args.errors.now) runs;
      silent = refl;
      ended = refl;
    })

pub returns-in-Err : goal.returns-in-Err
returns-in-Err g c =
    let left = cut_refused g.O.Write.contents c.args.bytes.now c.args.entry c.args.out.now c.cut_level.new.out (g.E.Sink.state c.args.errors.now) c.in-Err.fault c.in-Err.ensures.runs (search rules) in
    inr (inl (record {
      fault = c.in-Err.fault;
      of_file = of_file c.in-Err.fault (search rules);
      why = left.0;
      told = (c.write_cut_line.result, c.write_cut_line.ensures);
      untouched = left.1;
      ended = c.cut_fault_end.ensures;
    }))
