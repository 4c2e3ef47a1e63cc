use Rattle.std.proofs.Common.{◌≡◌, ◌∙◌, Some, sym, rules}
use Rattle.std.proofs.lemmas.Int.{to_z-of_z}
use Rattle.std.specs.Prelude.{FitsSigned}
use Rattle.std.specs.Int.{w16}
use Rattle.std.specs.List.{slice_get}
use Rattle.map_level.specs.Links.{sectors_of}
use Rattle.game_warnings.specs.Harm.{IsEffectTag}
use Rattle.game_warnings.specs.Tags.{mark_of}
use Rattle.game_warnings.proofs.FirstLemmas.{at_some, some_at}
use Rattle.game_warnings.proofs.effect_tag.has_effect_tag.Goals as goal

pub returns : goal.returns
returns c =
    let level = c.args.level.now in
    let found = slice_get (sectors_of level) c.args.s in
    let here : found ≡ Some c.at.result = rw (← c.sectors.ensures.is) c.at.ensures in
    let fits : FitsSigned w16 c.at.result.tag = search rules in
    let marked : c.is_marked.result ≡ mark_of c.args.tags.now c.at.result.tag = simp to_z-of_z at c.is_marked.ensures in
    let told = c.requires.tags.told c.at.result.tag fits in (
      λ yes. at_some found c.at.result (λ sector. IsEffectTag level c.args.effect sector.tag) here (told.0 (sym marked ∙ yes)),
      λ has. marked ∙ told.1 (some_at found c.at.result (λ sector. IsEffectTag level c.args.effect sector.tag) here has),
    )
