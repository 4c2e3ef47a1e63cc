-- Warnings of one code stand at numbers of their own, below those that their tables bound.
use Rattle.std.proofs.Common.{◌≡◌, ◌≢◌, ℕ, ◌+◌, ◌*◌, ◌<◌, ◌≤◌, List, [], ◌∷◌, length, get_or, refl, ap, sym, subst, ◌∙◌, arith}
use Rattle.std.specs.Prelude.{IsSomeAnd, Option, Some}
use Rattle.std.specs.List.{slice_get}
use Rattle.std.proofs.lemmas.List.{length-map}
use Rattle.le_rec.specs.declared.records.LineDef.{LineDef}
use Rattle.map_level.specs.Level.{Level}
use Rattle.map_level.specs.Reading.{linedef_under}
use Rattle.map_level.specs.Links.{linedefs_of, sectors_of, things_of}
use Rattle.map_level.proofs.BoundLemmas.{some_within}
use Rattle.game_warnings.specs.declared.code.GameCode.TheVariants.{W14, W15, W16, W17, W18, W19, W21, W22, W25}
use Rattle.game_warnings.specs.declared.warning.GameWarning.{GameWarning}
use Rattle.game_warnings.specs.declared.warning.GameWarning.TheVariants.{UnknownSpecial, ZeroTag, NeverCrossed, NoDestination, OneSidedDoor, ManyPlatforms, ManyCeilings, Harmful, DeadlyFloor, NoExit, Locked, EndsThings, InNoSkill, NoTarget, ManyTargets, ManyScrolling, ManyPerpetual, ManyStarts, LongSave, LacksPatch, MisplacedFlat}
use Rattle.game_warnings.specs.Holds.{HoldsIn, HoldsOf}
use Rattle.game_warnings.specs.Harm.{effect_of, DoesHarm, HasHarm, IsFirstHarm}
use Rattle.game_warnings.specs.Patches as patches
use Rattle.game_warnings.proofs.HarmLemmas.{first_harm_one}
use Rattle.game_warnings.proofs.PatchLemmas.{lacks_one}
use Rattle.wad_dir.specs.Wad.{Wad}
use Rattle.game_numbers.specs.Specials.{ceiling, platform}
use Rattle.game_warnings.specs.Effect.{answer_count, StartsTooMany}
use Rattle.game_warnings.specs.Limit.{deathmatch_count, perpetual_count, scrolling_count}
use Rattle.game_warnings.specs.Lock.{lacking, locked}
use Rattle.game_warnings.specs.Save.{saved}
use Rattle.game_warnings.specs.Shooter.{crowded_in, skills_by, unaimed_in, IsCrowded, IsUnaimed}
use Rattle.le_rec.specs.declared.records.Thing.{Thing}
use Rattle.game_warnings.specs.Warnings.{barrier_number, effect_number, key_number, rank, surface_number}
use Rattle.game_warnings.specs.declared.warning.Effect.{Effect}
use Rattle.game_warnings.specs.declared.warning.Effect.TheVariants.{Donut, Nearest, Change}
use Rattle.game_warnings.specs.declared.warning.Harm.{Harm}
use Rattle.game_warnings.specs.declared.warning.Surface.{Surface}
use Rattle.game_warnings.specs.declared.warning.Surface.TheVariants.{Floor, Ceiling}
use Rattle.game_warnings.specs.declared.warning.Barrier.{Barrier}
use Rattle.game_warnings.specs.declared.warning.Barrier.TheVariants.{NoBack, LetsNone}
use Rattle.game_numbers.specs.declared.key.Key.{Key}
use Rattle.game_numbers.specs.declared.key.Key.TheVariants.{Blue, Yellow, Red}
use Rattle.game_warnings.specs.ZeroTag.{zero_tagged}

linedef-within : (level : Level) (i : ℕ) (P : LineDef → Type 0) → IsSomeAnd (slice_get (linedefs_of level) i) P → i < length level.linedefs.records
linedef-within level i P h = rw (length-map level.linedefs.records (linedef_under level.reading)) at (some_within (linedefs_of level) i P h)

pub unknown_alone : (level : Level) (i : ℕ) (w : GameWarning) → HoldsOf level W14 w → rank w ≡ i → w ≡ UnknownSpecial i
unknown_alone level i (UnknownSpecial j) h e = ap UnknownSpecial e
unknown_alone level i v h e = absurd (let other = h.0 in cc)

pub unknown_within : (level : Level) (w : GameWarning) → HoldsOf level W14 w → rank w < length level.linedefs.records
unknown_within level (UnknownSpecial i) h = linedef-within level i _ h.1
unknown_within level v h = absurd (let other = h.0 in cc)

pub zero_alone : (level : Level) (i : ℕ) (w : GameWarning) → HoldsOf level W15 w → rank w ≡ i → w ≡ ZeroTag i (zero_tagged level)
zero_alone level i (ZeroTag j sectors) h e = rw (e, h.1.1) refl
zero_alone level i v h e = absurd (let other = h.0 in cc)

pub zero_within : (level : Level) (w : GameWarning) → HoldsOf level W15 w → rank w < length level.linedefs.records
zero_within level (ZeroTag i sectors) h = linedef-within level i _ h.1.0
zero_within level v h = absurd (let other = h.0 in cc)

pub deadly_alone : (level : Level) (s : ℕ) (w : GameWarning) → HoldsOf level W18 w → rank w ≡ s → w ≡ DeadlyFloor s
deadly_alone level s (DeadlyFloor j) h e = ap DeadlyFloor e
deadly_alone level s v h e = absurd (let other = h.0 in cc)

pub deadly_within : (level : Level) (w : GameWarning) → HoldsOf level W18 w → rank w < length level.sectors.records
deadly_within level (DeadlyFloor s) h = some_within (sectors_of level) s _ h.1
deadly_within level v h = absurd (let other = h.0 in cc)

-- a barrier and a key are known by their numbers
barrier_by : (b : Barrier) → b ≡ get_or (NoBack ∷ LetsNone ∷ []) (barrier_number b) NoBack
barrier_by NoBack = refl
barrier_by LetsNone = refl

pub barrier-below : (b : Barrier) → barrier_number b < 2
barrier-below NoBack = omega arith
barrier-below LetsNone = omega arith

key_by : (k : Key) → k ≡ get_or (Blue ∷ Yellow ∷ Red ∷ []) (key_number k) Blue
key_by Blue = refl
key_by Yellow = refl
key_by Red = refl

key-below : (k : Key) → key_number k < 3
key-below Blue = omega arith
key-below Yellow = omega arith
key-below Red = omega arith

-- a record's number and a number below how many can hold of it
same_pair : (k l a b : ℕ) → a < 2 → b < 2 → k * 3 + a ≡ l * 3 + b → (k ≡ l) × (a ≡ b)
same_pair k l a b h1 h2 e = (omega arith, omega arith)

pub barred_alone : (level : Level) (i : ℕ) (b : Barrier) (w : GameWarning) → HoldsOf level W16 w → rank w ≡ i * 3 + barrier_number b → w ≡ NeverCrossed i b
barred_alone level i b (NeverCrossed j c) h e =
    let same = same_pair j i (barrier_number c) (barrier_number b) (barrier-below c) (barrier-below b) e in
    let barrier : c ≡ b = barrier_by c ∙ ap (λ n. get_or (NoBack ∷ LetsNone ∷ []) n NoBack) same.1 ∙ sym (barrier_by b) in
    rw (same.0, barrier) refl
barred_alone level i b (NoDestination j) h e = absurd (omega (arith, e, barrier-below b))
barred_alone level i b v h e = absurd (let other = h.0 in cc)

pub lost_alone : (level : Level) (i : ℕ) (w : GameWarning) → HoldsOf level W16 w → rank w ≡ i * 3 + 2 → w ≡ NoDestination i
lost_alone level i (NoDestination j) h e = let same : j ≡ i = omega (arith, e) in ap NoDestination same
lost_alone level i (NeverCrossed j c) h e = absurd (omega (arith, e, barrier-below c))
lost_alone level i v h e = absurd (let other = h.0 in cc)

pub crossing_within : (level : Level) (w : GameWarning) → HoldsOf level W16 w → rank w < length level.linedefs.records * 3
crossing_within level (NeverCrossed i b) h = let within = linedef-within level i _ h.1 in omega (arith, within, barrier-below b)
crossing_within level (NoDestination i) h = let within = linedef-within level i _ h.1.1 in omega (arith, within)
crossing_within level v h = absurd (let other = h.0 in cc)

-- the effects stand at numbers of their own, apart from those of platforms and ceilings
pub effect_number-between : (e : Effect) → (0 < effect_number e) × (effect_number e < 6) × (effect_number e ≢ 2) × (effect_number e ≢ 3)
effect_number-between Donut = (omega arith, omega arith, (λ e. omega (arith, e)), (λ e. omega (arith, e)))
effect_number-between Nearest = (omega arith, omega arith, (λ e. omega (arith, e)), (λ e. omega (arith, e)))
effect_number-between Change = (omega arith, omega arith, (λ e. omega (arith, e)), (λ e. omega (arith, e)))

effect_by : (e : Effect) → e ≡ get_or (Donut ∷ Donut ∷ Donut ∷ Donut ∷ Nearest ∷ Change ∷ []) (effect_number e) Donut
effect_by Donut = refl
effect_by Nearest = refl
effect_by Change = refl

-- a linedef's number and a number below how many can hold of it
same_six : (k l a b : ℕ) → a < 6 → b < 6 → k * 6 + a ≡ l * 6 + b → (k ≡ l) × (a ≡ b)
same_six k l a b h1 h2 e = (omega arith, omega arith)

-- none of W17 stands at a linedef's number and another one
module _ (level : Level) (i : ℕ) where
  pub door_alone : (w : GameWarning) → HoldsOf level W17 w → rank w ≡ i * 6 → w ≡ OneSidedDoor i
  door_alone (OneSidedDoor j) h e = let same : j ≡ i = omega (arith, e) in ap OneSidedDoor same
  door_alone (ManyPlatforms j count) h e = absurd (omega (arith, e))
  door_alone (ManyCeilings j count) h e = absurd (omega (arith, e))
  door_alone (Harmful j harm) h e = let between = effect_number-between (effect_of harm) in absurd (omega (arith, e, between.0, between.1))
  door_alone v h e = absurd (let other = h.0 in cc)

-- what holds of a linedef at a number
at_linedef : (P : LineDef → Type 0) (found : Option LineDef) (linedef : LineDef) → found ≡ Some linedef → IsSomeAnd found P → P linedef
at_linedef P found linedef at h = subst (λ o. IsSomeAnd o P) at h

pub platforms_alone : (level : Level) (i : ℕ) (linedef : LineDef) → slice_get (linedefs_of level) i ≡ Some linedef → (w : GameWarning) → HoldsOf level W17 w
    → rank w ≡ i * 6 + 2 → w ≡ ManyPlatforms i (answer_count level linedef.tag)
platforms_alone level i linedef at (ManyPlatforms j count) h e =
    let same : j ≡ i = omega (arith, e) in
    let here = at_linedef (StartsTooMany level platform count) (slice_get (linedefs_of level) j) linedef (ap (slice_get (linedefs_of level)) same ∙ at) h.1 in
    rw (same, here.are) refl
platforms_alone level i linedef at (OneSidedDoor j) h e = absurd (omega (arith, e))
platforms_alone level i linedef at (ManyCeilings j count) h e = absurd (omega (arith, e))
platforms_alone level i linedef at (Harmful j harm) h e =
    let between = effect_number-between (effect_of harm) in
    absurd (between.2 (same_six j i (effect_number (effect_of harm)) 2 between.1 (omega arith) e).1)
platforms_alone level i linedef at v h e = absurd (let other = h.0 in cc)

pub ceilings_alone : (level : Level) (i : ℕ) (linedef : LineDef) → slice_get (linedefs_of level) i ≡ Some linedef → (w : GameWarning) → HoldsOf level W17 w
    → rank w ≡ i * 6 + 3 → w ≡ ManyCeilings i (answer_count level linedef.tag)
ceilings_alone level i linedef at (ManyCeilings j count) h e =
    let same : j ≡ i = omega (arith, e) in
    let here = at_linedef (StartsTooMany level ceiling count) (slice_get (linedefs_of level) j) linedef (ap (slice_get (linedefs_of level)) same ∙ at) h.1 in
    rw (same, here.are) refl
ceilings_alone level i linedef at (OneSidedDoor j) h e = absurd (omega (arith, e))
ceilings_alone level i linedef at (ManyPlatforms j count) h e = absurd (omega (arith, e))
ceilings_alone level i linedef at (Harmful j harm) h e =
    let between = effect_number-between (effect_of harm) in
    absurd (between.3 (same_six j i (effect_number (effect_of harm)) 3 between.1 (omega arith) e).1)
ceilings_alone level i linedef at v h e = absurd (let other = h.0 in cc)

-- a harm at a linedef's number is one of its effect
harm_here : (level : Level) (i j : ℕ) (effect : Effect) (harm : Harm) (linedef : LineDef) → slice_get (linedefs_of level) i ≡ Some linedef → HasHarm level j harm
    → j * 6 + effect_number (effect_of harm) ≡ i * 6 + effect_number effect → (j ≡ i) × (effect_of harm ≡ effect) × DoesHarm level harm linedef
harm_here level i j effect harm linedef at h e =
    let own = effect_number-between (effect_of harm) in
    let other = effect_number-between effect in
    let same = same_six j i (effect_number (effect_of harm)) (effect_number effect) own.1 other.1 e in
    let one : effect_of harm ≡ effect = effect_by (effect_of harm) ∙ ap (λ n. get_or (Donut ∷ Donut ∷ Donut ∷ Donut ∷ Nearest ∷ Change ∷ []) n Donut) same.1 ∙ sym (effect_by effect) in
    (same.0, one, at_linedef (DoesHarm level harm) (slice_get (linedefs_of level) j) linedef (ap (slice_get (linedefs_of level)) same.0 ∙ at) h)

module _ (level : Level) (i : ℕ) (effect : Effect) (linedef : LineDef) (at : slice_get (linedefs_of level) i ≡ Some linedef) where
  pub harm_alone : (harm : Harm) → effect_of harm ≡ effect → IsFirstHarm level effect linedef.tag harm → (w : GameWarning) → HoldsOf level W17 w
      → rank w ≡ i * 6 + effect_number effect → w ≡ Harmful i harm
  harm_alone harm is first (Harmful j other) h e =
      let here = harm_here level i j effect other linedef at h.1 e in
      let same : other ≡ harm = first_harm_one level effect linedef.tag other harm (subst (λ kind. IsFirstHarm level kind linedef.tag other) here.1 here.2.first) first in
      rw (here.0, same) refl
  harm_alone harm is first (OneSidedDoor j) h e = let between = effect_number-between effect in absurd (omega (arith, e, between.0, between.1))
  harm_alone harm is first (ManyPlatforms j count) h e =
      let between = effect_number-between effect in
      absurd (between.2 (sym (same_six j i 2 (effect_number effect) (omega arith) between.1 e).1))
  harm_alone harm is first (ManyCeilings j count) h e =
      let between = effect_number-between effect in
      absurd (between.3 (sym (same_six j i 3 (effect_number effect) (omega arith) between.1 e).1))
  harm_alone harm is first v h e = absurd (let other = h.0 in cc)

  -- where a special hasn't the effect, or no sector of the tag is harmed
  pub harm_none : ((harm : Harm) → effect_of harm ≡ effect → ¬ DoesHarm level harm linedef) → (w : GameWarning) → HoldsOf level W17 w
      → i * 6 + effect_number effect ≤ rank w → rank w < i * 6 + effect_number effect + 1 → ⊥
  harm_none none (Harmful j other) h from to =
      let here = harm_here level i j effect other linedef at h.1 (omega (arith, from, to)) in
      none other here.1 here.2
  harm_none none (OneSidedDoor j) h from to = let between = effect_number-between effect in omega (arith, from, to, between.0, between.1)
  harm_none none (ManyPlatforms j count) h from to =
      let between = effect_number-between effect in
      between.2 (sym (same_six j i 2 (effect_number effect) (omega arith) between.1 (omega (arith, from, to))).1)
  harm_none none (ManyCeilings j count) h from to =
      let between = effect_number-between effect in
      between.3 (sym (same_six j i 3 (effect_number effect) (omega arith) between.1 (omega (arith, from, to))).1)
  harm_none none v h from to = let other = h.0 in cc

pub effect_within : (level : Level) (w : GameWarning) → HoldsOf level W17 w → rank w < length level.linedefs.records * 6
effect_within level (OneSidedDoor i) h = let within = linedef-within level i _ h.1 in omega (arith, within)
effect_within level (ManyPlatforms i count) h = let within = linedef-within level i _ h.1 in omega (arith, within)
effect_within level (ManyCeilings i count) h = let within = linedef-within level i _ h.1 in omega (arith, within)
effect_within level (Harmful i harm) h =
    let within = linedef-within level i _ h.1 in
    let between = effect_number-between (effect_of harm) in
    omega (arith, within, between.1)
effect_within level v h = absurd (let other = h.0 in cc)

pub exit_alone : (level : Level) (w : GameWarning) → HoldsOf level W19 w → rank w ≡ 0 → w ≡ NoExit
exit_alone level NoExit h e = refl
exit_alone level (Locked key linedefs skills) h e = absurd (omega (arith, e))
exit_alone level v h e = absurd (let other = h.0 in cc)

pub locked_alone : (level : Level) (k : Key) (w : GameWarning) → HoldsOf level W19 w → rank w ≡ 1 + key_number k → w ≡ Locked k (locked level k) (lacking level k)
locked_alone level k NoExit h e = absurd (omega (arith, e))
locked_alone level k (Locked key linedefs skills) h e =
    let number : key_number key ≡ key_number k = omega (arith, e) in
    let same : key ≡ k = key_by key ∙ ap (λ n. get_or (Blue ∷ Yellow ∷ Red ∷ []) n Blue) number ∙ sym (key_by k) in
    rw (h.1.count, h.1.are, same) refl
locked_alone level k v h e = absurd (let other = h.0 in cc)

pub locked_within : (level : Level) (w : GameWarning) → HoldsOf level W19 w → rank w < 4
locked_within level NoExit h = omega arith
locked_within level (Locked key linedefs skills) h = omega (arith, key-below key)
locked_within level v h = absurd (let other = h.0 in cc)

-- of W21 four can hold of a thing
pub ending_alone : (level : Level) (k follow : ℕ) → length level.things.records ≡ k + 1 + follow → (w : GameWarning) → HoldsOf level W21 w → rank w ≡ k * 4 → w ≡ EndsThings k follow
ending_alone level k follow long (EndsThings j more) h e =
    let same : j ≡ k = omega (arith, e) in
    let count : more ≡ follow = omega (arith, long, h.1.1, same) in
    rw (same, count) refl
ending_alone level k follow long (InNoSkill j) h e = absurd (omega (arith, e))
ending_alone level k follow long (NoTarget j skills) h e = absurd (omega (arith, e))
ending_alone level k follow long (ManyTargets j skills) h e = absurd (omega (arith, e))
ending_alone level k follow long v h e = absurd (let other = h.0 in cc)

pub unplaced_alone : (level : Level) (k : ℕ) (w : GameWarning) → HoldsOf level W21 w → rank w ≡ k * 4 + 1 → w ≡ InNoSkill k
unplaced_alone level k (InNoSkill j) h e = let same : j ≡ k = omega (arith, e) in ap InNoSkill same
unplaced_alone level k (EndsThings j more) h e = absurd (omega (arith, e))
unplaced_alone level k (NoTarget j skills) h e = absurd (omega (arith, e))
unplaced_alone level k (ManyTargets j skills) h e = absurd (omega (arith, e))
unplaced_alone level k v h e = absurd (let other = h.0 in cc)

-- what holds of a thing at a number
at_thing : (P : Thing → Type 0) (found : Option Thing) (thing : Thing) → found ≡ Some thing → IsSomeAnd found P → P thing
at_thing P found thing at h = subst (λ o. IsSomeAnd o P) at h

pub unaimed_alone : (level : Level) (k : ℕ) (thing : Thing) → slice_get (things_of level) k ≡ Some thing → (w : GameWarning) → HoldsOf level W21 w
    → rank w ≡ k * 4 + 2 → w ≡ NoTarget k (skills_by (unaimed_in level thing))
unaimed_alone level k thing at (NoTarget j skills) h e =
    let same : j ≡ k = omega (arith, e) in
    let here = at_thing (IsUnaimed level skills) (slice_get (things_of level) j) thing (ap (slice_get (things_of level)) same ∙ at) h.1 in
    rw (same, here.are) refl
unaimed_alone level k thing at (EndsThings j more) h e = absurd (omega (arith, e))
unaimed_alone level k thing at (InNoSkill j) h e = absurd (omega (arith, e))
unaimed_alone level k thing at (ManyTargets j skills) h e = absurd (omega (arith, e))
unaimed_alone level k thing at v h e = absurd (let other = h.0 in cc)

pub crowded_alone : (level : Level) (k : ℕ) (thing : Thing) → slice_get (things_of level) k ≡ Some thing → (w : GameWarning) → HoldsOf level W21 w
    → rank w ≡ k * 4 + 3 → w ≡ ManyTargets k (skills_by (crowded_in level thing))
crowded_alone level k thing at (ManyTargets j skills) h e =
    let same : j ≡ k = omega (arith, e) in
    let here = at_thing (IsCrowded level skills) (slice_get (things_of level) j) thing (ap (slice_get (things_of level)) same ∙ at) h.1 in
    rw (same, here.are) refl
crowded_alone level k thing at (EndsThings j more) h e = absurd (omega (arith, e))
crowded_alone level k thing at (InNoSkill j) h e = absurd (omega (arith, e))
crowded_alone level k thing at (NoTarget j skills) h e = absurd (omega (arith, e))
crowded_alone level k thing at v h e = absurd (let other = h.0 in cc)

pub thing_within : (level : Level) (w : GameWarning) → HoldsOf level W21 w → rank w < length level.things.records * 4
thing_within level (EndsThings k follow) h = omega (arith, h.1.1)
thing_within level (InNoSkill k) h = let within = some_within (things_of level) k _ h.1 in omega (arith, within)
thing_within level (NoTarget k skills) h = let within = some_within (things_of level) k _ h.1 in omega (arith, within)
thing_within level (ManyTargets k skills) h = let within = some_within (things_of level) k _ h.1 in omega (arith, within)
thing_within level v h = absurd (let other = h.0 in cc)

-- of W22 each holds once
pub scrolling_alone : (level : Level) (w : GameWarning) → HoldsOf level W22 w → rank w ≡ 0 → w ≡ ManyScrolling (scrolling_count level)
scrolling_alone level (ManyScrolling n) h e = ap ManyScrolling h.1.0
scrolling_alone level (ManyPerpetual n) h e = absurd (omega (arith, e))
scrolling_alone level (ManyStarts n) h e = absurd (omega (arith, e))
scrolling_alone level (LongSave n) h e = absurd (omega (arith, e))
scrolling_alone level (LacksPatch texture) h e = absurd h.1
scrolling_alone level v h e = absurd (let other = h.0 in cc)

pub perpetual_alone : (level : Level) (w : GameWarning) → HoldsOf level W22 w → rank w ≡ 1 → w ≡ ManyPerpetual (perpetual_count level)
perpetual_alone level (ManyPerpetual n) h e = ap ManyPerpetual h.1.0
perpetual_alone level (ManyScrolling n) h e = absurd (omega (arith, e))
perpetual_alone level (ManyStarts n) h e = absurd (omega (arith, e))
perpetual_alone level (LongSave n) h e = absurd (omega (arith, e))
perpetual_alone level (LacksPatch texture) h e = absurd h.1
perpetual_alone level v h e = absurd (let other = h.0 in cc)

pub starts_alone : (level : Level) (w : GameWarning) → HoldsOf level W22 w → rank w ≡ 2 → w ≡ ManyStarts (deathmatch_count level)
starts_alone level (ManyStarts n) h e = ap ManyStarts h.1.0
starts_alone level (ManyScrolling n) h e = absurd (omega (arith, e))
starts_alone level (ManyPerpetual n) h e = absurd (omega (arith, e))
starts_alone level (LongSave n) h e = absurd (omega (arith, e))
starts_alone level (LacksPatch texture) h e = absurd h.1
starts_alone level v h e = absurd (let other = h.0 in cc)

pub save_alone : (level : Level) (w : GameWarning) → HoldsOf level W22 w → rank w ≡ 3 → w ≡ LongSave (saved level)
save_alone level (LongSave n) h e = ap LongSave h.1.0
save_alone level (ManyScrolling n) h e = absurd (omega (arith, e))
save_alone level (ManyPerpetual n) h e = absurd (omega (arith, e))
save_alone level (ManyStarts n) h e = absurd (omega (arith, e))
save_alone level (LacksPatch texture) h e = absurd h.1
save_alone level v h e = absurd (let other = h.0 in cc)

pub limit_within : (level : Level) (w : GameWarning) → HoldsOf level W22 w → rank w < 4
limit_within level (ManyScrolling n) h = omega arith
limit_within level (ManyPerpetual n) h = omega arith
limit_within level (ManyStarts n) h = omega arith
limit_within level (LongSave n) h = omega arith
limit_within level (LacksPatch texture) h = absurd h.1
limit_within level v h = absurd (let other = h.0 in cc)

-- with files, the first texture that lacks a patch stands behind these
pub patch_alone : (files : List Wad) (level : Level) (bytes : List ℕ) → patches.LacksPatch files bytes → (w : GameWarning) → HoldsIn (Some files) level W22 w → rank w ≡ 4
    → w ≡ LacksPatch bytes
patch_alone files level bytes lacks (LacksPatch other) h e = ap LacksPatch (lacks_one files other bytes h.1 lacks)
patch_alone files level bytes lacks (ManyScrolling n) h e = absurd (omega (arith, e))
patch_alone files level bytes lacks (ManyPerpetual n) h e = absurd (omega (arith, e))
patch_alone files level bytes lacks (ManyStarts n) h e = absurd (omega (arith, e))
patch_alone files level bytes lacks (LongSave n) h e = absurd (omega (arith, e))
patch_alone files level bytes lacks v h e = absurd (let other = h.0 in cc)

pub patch_none : (files : List Wad) (level : Level) → ((bytes : List ℕ) → ¬ patches.LacksPatch files bytes) → (w : GameWarning) → HoldsIn (Some files) level W22 w
    → 4 ≤ rank w → rank w < 5 → ⊥
patch_none files level none (LacksPatch other) h from to = none other h.1
patch_none files level none (ManyScrolling n) h from to = omega (arith, from)
patch_none files level none (ManyPerpetual n) h from to = omega (arith, from)
patch_none files level none (ManyStarts n) h from to = omega (arith, from)
patch_none files level none (LongSave n) h from to = omega (arith, from)
patch_none files level none v h from to = let other = h.0 in cc

pub limit_among_within : (files : List Wad) (level : Level) (w : GameWarning) → HoldsIn (Some files) level W22 w → rank w < 5
limit_among_within files level (ManyScrolling n) h = omega arith
limit_among_within files level (ManyPerpetual n) h = omega arith
limit_among_within files level (ManyStarts n) h = omega arith
limit_among_within files level (LongSave n) h = omega arith
limit_among_within files level (LacksPatch texture) h = omega arith
limit_among_within files level v h = absurd (let other = h.0 in cc)

-- a surface is known by its number
surface_by : (f : Surface) → f ≡ get_or (Floor ∷ Ceiling ∷ []) (surface_number f) Floor
surface_by Floor = refl
surface_by Ceiling = refl

surface_number-below : (f : Surface) → surface_number f < 2
surface_number-below Floor = omega arith
surface_number-below Ceiling = omega arith

same_two : (k l a b : ℕ) → a < 2 → b < 2 → k * 2 + a ≡ l * 2 + b → (k ≡ l) × (a ≡ b)
same_two k l a b h1 h2 e = (omega arith, omega arith)

pub misplaced_alone : (files : List Wad) (level : Level) (s : ℕ) (f : Surface) (w : GameWarning) → HoldsIn (Some files) level W25 w
    → rank w ≡ s * 2 + surface_number f → w ≡ MisplacedFlat s f
misplaced_alone files level s f (MisplacedFlat t d) h e =
    let same = same_two t s (surface_number d) (surface_number f) (surface_number-below d) (surface_number-below f) e in
    let surface : d ≡ f = surface_by d ∙ ap (λ n. get_or (Floor ∷ Ceiling ∷ []) n Floor) same.1 ∙ sym (surface_by f) in
    rw (same.0, surface) refl
misplaced_alone files level s f v h e = absurd (let other = h.0 in cc)

pub misplaced_within : (files : List Wad) (level : Level) (w : GameWarning) → HoldsIn (Some files) level W25 w → rank w < length level.sectors.records * 2
misplaced_within files level (MisplacedFlat s f) h =
    let within = some_within (sectors_of level) s _ h.1 in omega (arith, within, surface_number-below f)
misplaced_within files level v h = absurd (let other = h.0 in cc)

-- no flat is told of without files
pub none_misplaced : (level : Level) (w : GameWarning) → ¬ HoldsOf level W25 w
none_misplaced level (MisplacedFlat s f) h = h.1
none_misplaced level v h = absurd (let other = h.0 in cc)
