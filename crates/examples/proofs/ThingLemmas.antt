-- Sectors of things, one after another.
use Rattle.std.proofs.Common.{◌≡◌, inl, inr, ℕ, ◌+◌, List, [], ◌∷◌, ◌++◌, length, length-append, Option, Some, refl, sym, ap, ◌∙◌, subst}
use Rattle.std.specs.List.{slice_get}
use Rattle.le_rec.specs.declared.records.Thing.{Thing}
use Rattle.map_level.specs.Level.{Level}
use Rattle.examples.proofs.ListLemmas.{slice_get-last}
use Rattle.examples.specs.ThingSectors.{StandsIn}

-- the sectors of the first things
pub record StandSoFar (level : Level) (things : List Thing) (count : ℕ) (sectors : List (Option ℕ)) : Type 0 where
  pub long : length sectors ≡ count
  pub each : (i : ℕ) (thing : Thing) (sector : Option ℕ) → slice_get things i ≡ Some thing → slice_get sectors i ≡ Some sector
      → StandsIn level thing sector

pub StandSoFar-none : (level : Level) (things : List Thing) → StandSoFar level things 0 []
StandSoFar-none level things = record { long = refl; each = λ i thing sector e none. absurd cc }

pub StandSoFar-more : (level : Level) (things : List Thing) (count : ℕ) (sectors : List (Option ℕ)) (thing : Thing) (sector : Option ℕ)
    → StandSoFar level things count sectors → slice_get things count ≡ Some thing → StandsIn level thing sector
    → StandSoFar level things (count + 1) (sectors ++ sector ∷ [])
StandSoFar-more level things count sectors thing sector so_far at here = record {
  long = length-append sectors (sector ∷ []) ∙ ap (λ n. n + 1) so_far.long;
  each = λ i other found e there. elim (slice_get-last sectors found sector i there) [
    | inl before ↦ so_far.each i other found e before
    | inr last ↦
        let same : Some other ≡ Some thing = sym e ∙ ap (slice_get things) (last.0 ∙ so_far.long) ∙ at in
        let is : other ≡ thing = cc in
        subst (λ t. StandsIn level t found) (sym is) (subst (λ s. StandsIn level thing s) (sym last.1) here)
  ];
}
