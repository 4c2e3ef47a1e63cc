use Rattle.std.proofs.Common.{◌∙◌, rules}
use Rattle.std.specs.Prelude.{FitsSigned}
use Rattle.std.specs.Int.{w16}
use Rattle.std.proofs.lemmas.Int.{to_z-of_z}
use Rattle.game_warnings.proofs.SearchLemmas.{whole_lowest}
use Rattle.game_warnings.proofs.around.lowest_floor.Goals as goal

pub returns : goal.returns
returns c =
    let fits : FitsSigned w16 c.around_at.result.lowest = search rules in
    to_z-of_z w16 c.around_at.result.lowest fits ∙ whole_lowest c.args.level.now c.args.s c.around_at.result c.around_at.ensures
