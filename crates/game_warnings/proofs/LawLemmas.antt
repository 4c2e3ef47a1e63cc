-- A level without W22 is within the game's limits.
use Rattle.std.proofs.Common.{ℕ, ◌<◌, ◌≤◌, inl, inr, refl}
use Rattle.std.proofs.lemmas.Bool.{cases_lt}
use Rattle.game_warnings.specs.Laws.{NoneIsWithinLimits}
use Rattle.game_warnings.specs.Limit.{deathmatch_count, perpetual_count, scrolling_count}
use Rattle.game_warnings.specs.Save.{saved}
use Rattle.game_warnings.specs.declared.warning.GameWarning.TheVariants.{ManyScrolling, ManyPerpetual, ManyStarts, LongSave}

not_above : (most count : ℕ) → ((most < count) → ⊥) → count ≤ most
not_above most count none = elim (cases_lt most count) [ inl above ↦ absurd (none above) | inr within ↦ within ]

pub law_none_is_within_limits : NoneIsWithinLimits
law_none_is_within_limits level none = record {
  scrolling = not_above 64 (scrolling_count level) (λ above. none (ManyScrolling (scrolling_count level)) (refl, (refl, above)));
  perpetual = not_above 30 (perpetual_count level) (λ above. none (ManyPerpetual (perpetual_count level)) (refl, (refl, above)));
  starts = not_above 10 (deathmatch_count level) (λ above. none (ManyStarts (deathmatch_count level)) (refl, (refl, above)));
  save = not_above 180224 (saved level) (λ above. none (LongSave (saved level)) (refl, (refl, above)));
}
