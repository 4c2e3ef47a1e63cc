-- How the tags of linedefs with an effect come to be marked.
use Rattle.std.proofs.Common.{◌≡◌, ℕ, ◌≤◌, ℤ, Bool, true, false, List, length, Some, sym, arith}
use Rattle.std.specs.List.{slice_get}
use Rattle.le_rec.specs.declared.records.LineDef.{LineDef}
use Rattle.map_level.specs.Level.{Level}
use Rattle.map_level.specs.Links.{linedefs_of}
use Rattle.map_level.proofs.BoundLemmas.{some_within}
use Rattle.game_warnings.specs.Harm.{has_effect, HasEffectOn, IsEffectTag, IsEffectTagAt}
use Rattle.game_warnings.specs.Tags.{AddsTags, AreTags}
use Rattle.game_warnings.specs.declared.warning.Effect.{Effect}
use Rattle.game_warnings.proofs.FirstLemmas.{at_some}
use Rattle.game_warnings.proofs.TagLemmas.{adds_as, adds_none, all_marked, Below}

-- a linedef with an effect adds its tag, and another none
pub adds_effect : (effect : Effect) (linedef : LineDef) (before after : List Bool) → has_effect effect linedef.special ≡ true
    → AddsTags (λ other. other ≡ linedef.tag) before after → AddsTags (λ tag. HasEffectOn effect tag linedef) before after
adds_effect effect linedef before after has adds =
    adds_as (λ other. other ≡ linedef.tag) (λ tag. HasEffectOn effect tag linedef) before after adds (λ tag. (λ h. (has, sym h), λ h. sym h.1))

pub adds_no_effect : (effect : Effect) (linedef : LineDef) (marks : List Bool) → has_effect effect linedef.special ≡ false
    → AddsTags (λ tag. HasEffectOn effect tag linedef) marks marks
adds_no_effect effect linedef marks none =
    adds_none (λ tag. HasEffectOn effect tag linedef) marks (λ tag h. let has = h.0 in cc)

pub all_effects : (level : Level) (effect : Effect) (n : ℕ) (marks : List Bool) → length (linedefs_of level) ≤ n
    → AreTags (Below (IsEffectTagAt level effect) n) marks → AreTags (IsEffectTag level effect) marks
all_effects level effect n marks past are =
    all_marked (IsEffectTagAt level effect) n marks (λ i tag h. omega (arith, past, some_within (linedefs_of level) i _ h)) are

-- a linedef with an effect has it on the sectors of its tag
pub effect_tag : (level : Level) (effect : Effect) (i : ℕ) (linedef : LineDef) (tag : ℤ) → slice_get (linedefs_of level) i ≡ Some linedef
    → has_effect effect linedef.special ≡ true → linedef.tag ≡ tag → IsEffectTag level effect tag
effect_tag level effect i linedef tag at has is =
    (i, at_some (slice_get (linedefs_of level) i) linedef (HasEffectOn effect tag) at (has, is))
