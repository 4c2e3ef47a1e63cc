use Rattle.std.proofs.Common.{◌≡◌, Some, rules}
use Rattle.std.specs.Prelude.{FitsSigned}
use Rattle.std.specs.Int.{cast_unsigned, w16}
use Rattle.std.specs.List.{slice_get}
use Rattle.std.proofs.lemmas.Int.{to_z-of_z}
use Rattle.map_level.specs.Links.{sectors_of}
use Rattle.game_warnings.proofs.FirstLemmas.{at_some}
use Rattle.game_warnings.proofs.harm.tag_place.Goals as goal

pub returns-clause-place : goal.returns-clause-place
returns-clause-place c =
    let level = c.args.level.now in
    let here : slice_get (sectors_of level) c.args.s ≡ Some c.at.result = rw (← c.sectors.ensures.is) c.at.ensures in
    let fits : FitsSigned w16 c.at.result.tag = search rules in
    let word = simp to_z-of_z at c.cast_unsigned.ensures in
    at_some (slice_get (sectors_of level) c.args.s) c.at.result (λ sector. (c.cast_unsigned.result ≡ cast_unsigned w16 sector.tag) × FitsSigned w16 sector.tag) here (word, fits)
