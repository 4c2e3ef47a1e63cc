use Rattle.std.proofs.Common.{Some, sym, ap, ◌∙◌}
use Rattle.std.specs.Prelude.{unwrap_or}
use Rattle.map_level.proofs.LinkedLemmas.{linked_sector}
use Rattle.map_level.proofs.level.Level.ssector_sector.Goals as goal

pub returns : goal.returns
returns c =
    let there = linked_sector c.args.self.now c.requires.linked c.args.i c.requires.within in
    there.1
    ∙ ap Some
    (sym (c.unwrap_or.ensures ∙ ap (λ o. unwrap_or o 0) (c.sector_of.ensures ∙ there.1)))
