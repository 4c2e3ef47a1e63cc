use Rattle.std.proofs.Common.{inr}
use Rattle.look_engines.proofs.engines.sight.sight.Goals as goal

pub returns : goal.returns
returns g c = inr (record {
  what = c.in_ok-level.level;
  found = c.in_ok-level.ensures.ok;
  outcome = c.answer_lines.result;
  ended = c.ended.ensures;
  does = rw c.command_of.ensures at c.answer_lines.ensures;
})
