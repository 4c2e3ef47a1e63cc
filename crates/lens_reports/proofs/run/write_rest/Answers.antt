use Rattle.std.proofs.Common.{[], refl, rules}
use Rattle.lens_reports.specs.Output.{output_state}
use Rattle.lens_reports.proofs.JobLemmas.{nothing_more, whole_front}
use Rattle.lens_reports.proofs.run.write_rest.Goals as goal

pub returns-in-Ok : goal.returns-in-Ok
returns-in-Ok g c = (
  refl,
  nothing_more (output_state g.O.Write.contents c.args.out.now).taken (output_state g.O.Write.contents c.write_out.new.self).taken c.write_out.ensures.bytes,
  search rules,
)

pub returns-in-Err : goal.returns-in-Err
returns-in-Err g c = (
  search rules,
  whole_front (output_state g.O.Write.contents c.args.out.now) (output_state g.O.Write.contents c.write_out.new.self) []
      (nothing_more (output_state g.O.Write.contents c.args.out.now).taken (output_state g.O.Write.contents c.write_out.new.self).taken c.write_out.ensures.bytes),
  search rules,
)
