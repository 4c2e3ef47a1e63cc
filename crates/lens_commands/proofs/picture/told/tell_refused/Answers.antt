use Rattle.std.proofs.Common.{ℕ, List, Bor}
use Rattle.lens_commands.proofs.FileLemmas.{path_at}
use Rattle.lens_commands.proofs.picture.told.tell_refused.Goals as goal

pub returns : goal.returns
returns g c = record {
  path = c.as_bytes.result.now;
  there = path_at (λ (path : Bor (List ℕ)). path.now) c.args.paths.now c.args.index _ c.as_bytes.result.now c.requires.there c.as_bytes.ensures.value;
  told = (c.write_refusal.result, c.write_refusal.ensures);
}
