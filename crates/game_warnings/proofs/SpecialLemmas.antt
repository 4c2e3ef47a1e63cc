-- Nothing holds of a linedef without a special.
use Rattle.std.proofs.Common.{◌≡◌, ◌≢◌, ℕ, ◌+◌, ◌*◌, ◌<◌, ◌≤◌, ℤ, pos, true, false, List, Some, None, refl, sym, subst, ◌∙◌, arith}
use Rattle.std.specs.Prelude.{IsSomeAnd, IsTrue, Option}
use Rattle.std.specs.List.{slice_get}
use Rattle.le_rec.specs.declared.records.LineDef.{LineDef}
use Rattle.game_numbers.specs.Number.{is_one_of}
use Rattle.game_numbers.specs.Specials.{ceiling, change, crossed, door, nearest, platform, teleport}
use Rattle.map_level.specs.Level.{Level}
use Rattle.map_level.specs.Links.{linedefs_of}
use Rattle.std.proofs.lemmas.Bool.Decides.{Decides-int_eq}
use Rattle.game_warnings.specs.Harm.{effect_of, has_effect}
use Rattle.game_warnings.specs.Holds.{HoldsOf}
use Rattle.game_warnings.specs.declared.warning.Effect.{Effect}
use Rattle.game_warnings.specs.declared.warning.Effect.TheVariants.{Donut, Nearest, Change}
use Rattle.game_warnings.specs.Special.{HasSpecial}
use Rattle.game_warnings.specs.Warnings.{rank}
use Rattle.game_warnings.specs.declared.code.GameCode.TheVariants.{W16, W17}
use Rattle.game_warnings.specs.declared.warning.GameWarning.{GameWarning}
use Rattle.game_warnings.specs.declared.warning.GameWarning.TheVariants.{NeverCrossed, NoDestination, OneSidedDoor, ManyPlatforms, ManyCeilings, Harmful}
use Rattle.game_warnings.proofs.RankLemmas.{barrier-below, effect_number-between}

-- 0 is in none of the lists
not_zero : (numbers : List ℕ) (special : ℤ) → is_one_of numbers (pos 0) ≡ false → IsTrue (is_one_of numbers special) → special ≢ pos 0
not_zero numbers special none is zero =
    let here : is_one_of numbers (pos 0) ≡ true = subst (λ z. is_one_of numbers z ≡ true) zero is in
    cc

no_crossed : is_one_of crossed (pos 0) ≡ false
unfolding crossed
no_crossed = refl

no_teleport : is_one_of teleport (pos 0) ≡ false
unfolding teleport
no_teleport = refl

no_door : is_one_of door (pos 0) ≡ false
unfolding door
no_door = refl

no_platform : is_one_of platform (pos 0) ≡ false
unfolding platform
no_platform = refl

no_ceiling : is_one_of ceiling (pos 0) ≡ false
unfolding ceiling
no_ceiling = refl

-- what holds of a linedef whose special isn't 0 holds of one that has a special
some_special : (P : LineDef → Type 0) (found : Option LineDef) → ((linedef : LineDef) → P linedef → linedef.special ≢ pos 0) → IsSomeAnd found P
    → IsSomeAnd found (λ linedef. linedef.special ≢ pos 0)
some_special P (Some linedef) special h = special linedef h
some_special P None special h = h

special_at : (level : Level) (i j : ℕ) (P : LineDef → Type 0) → i ≡ j → ((linedef : LineDef) → P linedef → linedef.special ≢ pos 0)
    → IsSomeAnd (slice_get (linedefs_of level) j) P → HasSpecial level i
special_at level i j P same special h =
    subst (λ n. HasSpecial level n) (sym same) (some_special P (slice_get (linedefs_of level) j) special h)

pub no_crossing : (level : Level) (i : ℕ) → (¬ HasSpecial level i) → (v : GameWarning) → HoldsOf level W16 v → i * 3 ≤ rank v → rank v < i * 3 + 3 → ⊥
no_crossing level i none (NeverCrossed j b) h from to =
    let same : i ≡ j = omega (arith, from, to, barrier-below b) in
    none (special_at level i j _ same (λ linedef barred. not_zero crossed linedef.special no_crossed barred.0) h.1)
no_crossing level i none (NoDestination j) h from to =
    let same : i ≡ j = omega (arith, from, to) in
    none (special_at level i j _ same (λ linedef lost. not_zero teleport linedef.special no_teleport lost.teleports) h.1.1)
no_crossing level i none v h from to = let other = h.0 in cc

no_nearest : is_one_of nearest (pos 0) ≡ false
unfolding nearest
no_nearest = refl

no_change : is_one_of change (pos 0) ≡ false
unfolding change
no_change = refl

-- 0 has no effect
has_effect-some : (effect : Effect) (special : ℤ) → IsTrue (has_effect effect special) → special ≢ pos 0
has_effect-some Donut special is = λ zero.
    let nine : special ≡ pos 9 = (Decides-int_eq special (pos 9)).0 is in
    let other : pos 9 ≡ pos 0 = sym nine ∙ zero in
    cc
has_effect-some Nearest special is = not_zero nearest special no_nearest is
has_effect-some Change special is = not_zero change special no_change is

pub no_effect : (level : Level) (i : ℕ) → (¬ HasSpecial level i) → (v : GameWarning) → HoldsOf level W17 v → i * 6 ≤ rank v → rank v < i * 6 + 6 → ⊥
no_effect level i none (OneSidedDoor j) h from to =
    let same : i ≡ j = omega (arith, from, to) in
    none (special_at level i j _ same (λ linedef is. not_zero door linedef.special no_door is.0) h.1)
no_effect level i none (ManyPlatforms j count) h from to =
    let same : i ≡ j = omega (arith, from, to) in
    none (special_at level i j _ same (λ linedef starts. not_zero platform linedef.special no_platform starts.special) h.1)
no_effect level i none (ManyCeilings j count) h from to =
    let same : i ≡ j = omega (arith, from, to) in
    none (special_at level i j _ same (λ linedef starts. not_zero ceiling linedef.special no_ceiling starts.special) h.1)
no_effect level i none (Harmful j harm) h from to =
    let between = effect_number-between (effect_of harm) in
    let same : i ≡ j = omega (arith, from, to, between.1) in
    none (special_at level i j _ same (λ linedef does. has_effect-some (effect_of harm) linedef.special does.special) h.1)
no_effect level i none v h from to = let other = h.0 in cc
