use Rattle.lens_reports.proofs.DemosLemmas.{demos_left, demos_told, handed_of_demos}
use Rattle.lens_reports.proofs.demos.tell_demos.Goals as goal

pub returns-in-Ok : goal.returns-in-Ok
returns-in-Ok g c =
    let told = demos_told g.W.Sink.state g.E.Sink.state c.args.form c.args.path.now c.args.bytes.now c.args.out.now c.demos_file.new.out c.args.errors.now c.demos_file.new.errors
    c.in-Ok.all_read c.in-Ok.ensures.told in
    record {
      told = record { all_read = c.in-Ok.all_read; told = told.0; counts = c.demos_tally.ensures };
      out = told.1;
      errors = told.2;
      left = tt;
      handed = tt;
    }

pub returns-in-Err : goal.returns-in-Err
returns-in-Err g c =
    rw c.from_demos.ensures (record {
      told = tt;
      out = tt;
      errors = tt;
      left = demos_left g.W.Sink.state g.E.Sink.state c.args.form c.args.path.now c.args.bytes.now c.args.out.now c.demos_file.new.out c.args.errors.now c.demos_file.new.errors
          c.in-Err.fault c.in-Err.ensures.told;
      handed = handed_of_demos c.in-Err.fault _ c.in-Err.ensures.handed;
    })
