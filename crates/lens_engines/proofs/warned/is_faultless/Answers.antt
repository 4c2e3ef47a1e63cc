use Rattle.std.proofs.Common.{sym, ◌∙◌}
use Rattle.std.proofs.lemmas.Bool.{eqb-true, eq-eqb}
use Rattle.lens_engines.proofs.CheckLemmas.{faultless, sound_faultless}
use Rattle.lens_engines.proofs.warned.is_faultless.Goals as goal

pub returns : goal.returns
returns c = (
  (λ yes. faultless c.args.level.now c.args.counts.now c.requires (sym c.faults.ensures ∙ eqb-true c.faults.result 0 yes)),
  (λ sound. eq-eqb c.faults.result 0 (c.faults.ensures ∙ sound_faultless c.args.level.now c.args.counts.now c.requires sound)),
)
