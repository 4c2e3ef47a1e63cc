use Rattle.std.proofs.Common.{Err, inl, inr, length, map, ap, sym}
use Rattle.std.proofs.lemmas.List.{length-map}
use Rattle.lens_reports.proofs.JobLemmas.{tells_all}
use Rattle.lens_reports.proofs.run.run_paths.Goals as goal

pub returns-in-Ok : goal.returns-in-Ok
returns-in-Ok g c =
    let paths = map (λ path. path.now) c.args.paths.now in
    inl (tells_all (g.S.Storage.held c.args.files.now.0.now) c.args.asked paths (length c.args.paths.now)
    g.O.Write.contents c.args.out.now c.tell_paths-told.new.out c.finish-in-Ok.new.out (g.E.Sink.state c.args.errors.now) (g.E.Sink.state c.tell_paths-told.new.errors) (g.E.Sink.state c.finish-in-Ok.new.errors)
    c.in-Ok.tally c.finish-in-Ok.result (sym (length-map c.args.paths.now (λ path. path.now))) c.in-Ok.ensures.told c.finish-in-Ok.ensures)

pub returns-in-Err : goal.returns-in-Err
returns-in-Err g c = inr (record { stop = c.in-Err.stop; stops = c.in-Err.ensures.stopped; handed = c.in-Err.ensures.handed; ended = ap Err c.stop_end.ensures })
