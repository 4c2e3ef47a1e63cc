use Rattle.std.proofs.Common.{ap, ◌∙◌, inr, rules}
use Rattle.line_io.specs.Tied.{tied_reader_of}
use Rattle.wadlook.proofs.program.run_files.Goals as goal

pub returns : goal.returns
returns g c = inr (record {
  input = c.new-input.result;
  input' = c.run-outcome.new.input;
  out = c.new-out.result;
  out' = c.run-outcome.new.out;
  given = ap g.I.Read.remaining (ap tied_reader_of c.new-input.ensures.reader ∙ c.new-2.ensures);
  outcome = c.run-outcome.result;
  runs = c.run-outcome.ensures;
  ended = search rules;
})
