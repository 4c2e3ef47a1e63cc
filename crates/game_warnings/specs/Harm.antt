-- W17: specials that harm a sector of their tag, by what lies around it.
use Rattle.std.specs.Prelude.{◌≡◌, ◌⊎◌, ℕ, ◌<◌, ℤ, pos, Bool, false, List, [], FitsSigned, length, Option, Some, None, slice_index_or, IsSomeAnd, IsTrue}
use Rattle.std.specs.Int.{cast_unsigned, w16}
use Rattle.std.specs.List.{slice_get}
use Rattle.std.specs.Ordering.{int_eq}
use Rattle.le_rec.specs.declared.records.LineDef.{LineDef}
use Rattle.game_numbers.specs.Number.{is_one_of}
use Rattle.game_numbers.specs.SectorSpecials.{timed_door}
use Rattle.game_numbers.specs.Specials.{change, nearest}
use Rattle.map_level.specs.Level.{Level}
use Rattle.map_level.specs.Links.{linedefs_of, sectors_of}
use Rattle.game_warnings.specs.Around.{AreSearches}
use Rattle.game_warnings.specs.Change.{FindsNone}
use Rattle.game_warnings.specs.Donut.{HasNoLine, HasNoRing, HasOpenRing}
use Rattle.game_warnings.specs.Neighbours.{higher_count, lowest_floor}
use Rattle.game_warnings.specs.Sides.{sides_in}
use Rattle.game_warnings.specs.Tags.{HasTag}
use Rattle.game_warnings.specs.declared.search.Search.{Search}
use Rattle.game_warnings.specs.declared.warning.Effect.{Effect}
use Rattle.game_warnings.specs.declared.warning.Effect.TheVariants.{Donut, Nearest, Change}
use Rattle.game_warnings.specs.declared.warning.Harm.{Harm}
use Rattle.game_warnings.specs.declared.warning.Harm.TheVariants.{NoLine, NoRing, OpenRing, ManyNeighbours, NoNeighbour}

-- a special has an effect: a donut (EV_DoDonut of p_spec.c); to the next higher floor; to the lowest one, with a change
abbrev pub has_effect : Effect → ℤ → Bool
has_effect Donut special = int_eq special (pos 9)
has_effect Nearest special = is_one_of nearest special
has_effect Change special = is_one_of change special

-- which effect harms so
abbrev pub effect_of : Harm → Effect
effect_of (NoLine sector) = Donut
effect_of (NoRing linedef sector) = Donut
effect_of (OpenRing linedef ring) = Donut
effect_of (ManyNeighbours sector neighbours) = Nearest
effect_of (NoNeighbour sector height) = Change

-- sector s has no door from the start (sector->specialdata of EV_DoDonut and EV_DoFloor)
abbrev pub HasNoDoor : Level → ℕ → Type 0
HasNoDoor level s = IsSomeAnd (slice_get (sectors_of level) s) (λ sector. is_one_of timed_door sector.special ≡ false)

-- more of its neighbours are higher than the 20 that P_FindNextHighestFloor looks at
pub record HasManyNeighbours (level : Level) (s count : ℕ) : Type 0 where
  pub are : count ≡ higher_count level s
  pub many : 20 < count

-- it finds no neighbour at a height, so that its new special is what memory held
pub record HasNoNeighbour (level : Level) (s : ℕ) (height : ℤ) : Type 0 where
  pub none : FindsNone level s
  pub is : height ≡ lowest_floor level s

-- sector s is harmed so
abbrev pub IsHarmed : Level → ℕ → Harm → Type 0
IsHarmed level s (NoLine sector) = HasNoDoor level s × (sector ≡ s) × HasNoLine level s
IsHarmed level s (NoRing linedef sector) = HasNoDoor level s × (sector ≡ s) × HasNoRing level s linedef
IsHarmed level s (OpenRing linedef ring) = HasNoDoor level s × HasOpenRing level s linedef ring
IsHarmed level s (ManyNeighbours sector neighbours) = (sector ≡ s) × HasManyNeighbours level s neighbours
IsHarmed level s (NoNeighbour sector height) = HasNoDoor level s × (sector ≡ s) × HasNoNeighbour level s height

-- an effect harms sector s
abbrev pub IsHarmedBy : Level → Effect → ℕ → Harm → Type 0
IsHarmedBy level effect s harm = (effect_of harm ≡ effect) × IsHarmed level s harm

-- it harms the first sector of a tag that it harms at all
pub record IsFirstHarm (level : Level) (effect : Effect) (tag : ℤ) (harm : Harm) : Type 0 where
  pub sector : ℕ
  pub tagged : HasTag level sector tag
  pub is : IsHarmedBy level effect sector harm
  pub first : (s : ℕ) (other : Harm) → s < sector → HasTag level s tag → ¬ IsHarmedBy level effect s other

-- a linedef's special has the effect that harms so
pub record DoesHarm (level : Level) (harm : Harm) (linedef : LineDef) : Type 0 where
  pub special : IsTrue (has_effect (effect_of harm) linedef.special)
  pub first : IsFirstHarm level (effect_of harm) linedef.tag harm

-- linedef i does so
abbrev pub HasHarm : Level → ℕ → Harm → Type 0
HasHarm level i harm = IsSomeAnd (slice_get (linedefs_of level) i) (DoesHarm level harm)

-- the first harm of a tag, where there is one
abbrev pub IsHarmOf : Level → Effect → ℤ → Option Harm → Type 0
IsHarmOf level effect tag (Some harm) = IsFirstHarm level effect tag harm
IsHarmOf level effect tag None = (s : ℕ) (harm : Harm) → HasTag level s tag → ¬ IsHarmedBy level effect s harm

-- for each tag, by its word without the sign, the first harm
pub record AreHarms (level : Level) (effect : Effect) (harms : List (Option Harm)) : Type 0 where
  pub long : length harms ≡ 65536
  pub told : (tag : ℤ) → FitsSigned w16 tag → IsHarmOf level effect tag (slice_index_or harms (cast_unsigned w16 tag) None)

-- linedef i has an effect
abbrev pub HasEffectAt : Level → Effect → ℕ → Type 0
HasEffectAt level effect i = IsSomeAnd (slice_get (linedefs_of level) i) (λ linedef. IsTrue (has_effect effect linedef.special))

-- the searches of all sectors, for the effect that goes by them
abbrev pub AreSearchesFor : Level → Effect → List Search → Type 0
AreSearchesFor level effect searches = effect ≡ Change → AreSearches level (length (sides_in level)) searches

-- a linedef has an effect on the sectors of a tag
abbrev pub HasEffectOn : Effect → ℤ → LineDef → Type 0
HasEffectOn effect tag linedef = IsTrue (has_effect effect linedef.special) × (linedef.tag ≡ tag)

-- linedef i has it
abbrev pub IsEffectTagAt : Level → Effect → ℕ → ℤ → Type 0
IsEffectTagAt level effect i tag = IsSomeAnd (slice_get (linedefs_of level) i) (HasEffectOn effect tag)

-- some linedef has it
abbrev pub IsEffectTag : Level → Effect → ℤ → Type 0
IsEffectTag level effect tag = (i : ℕ) × IsEffectTagAt level effect i tag

-- sector s has the tag of such a linedef
abbrev pub HasEffectTag : Level → Effect → ℕ → Type 0
HasEffectTag level effect s = IsSomeAnd (slice_get (sectors_of level) s) (λ sector. IsEffectTag level effect sector.tag)

-- an effect harms sector s, which has the tag of a linedef with the effect
pub record IsHarmedSector (level : Level) (effect : Effect) (s : ℕ) : Type 0 where
  pub tagged : HasEffectTag level effect s
  pub harm : Harm
  pub is : IsHarmedBy level effect s harm

-- no tag of a linedef with the effect has a sector that the effect harms
abbrev pub HarmsNone : Level → Effect → Type 0
HarmsNone level effect = (tag : ℤ) → IsEffectTag level effect tag → IsHarmOf level effect tag None

-- these harms, or nothing where no sector of such a tag is harmed
abbrev pub AreHarmsKept : Level → Effect → List (Option Harm) → Type 0
AreHarmsKept level effect harms = ((harms ≡ []) × HarmsNone level effect) ⊎ AreHarms level effect harms

-- these harms, or nothing where no linedef has the effect
abbrev pub AreHarmsWhere : Level → Effect → List (Option Harm) → Type 0
AreHarmsWhere level effect harms = ((harms ≡ []) × ((i : ℕ) → ¬ HasEffectAt level effect i)) ⊎ AreHarmsKept level effect harms

-- the same of the sectors below n
pub record IsFirstHarmBelow (level : Level) (effect : Effect) (tag : ℤ) (n : ℕ) (harm : Harm) : Type 0 where
  pub first : IsFirstHarm level effect tag harm
  pub below : first.sector < n

abbrev pub IsHarmBelow : Level → Effect → ℤ → ℕ → Option Harm → Type 0
IsHarmBelow level effect tag n (Some harm) = IsFirstHarmBelow level effect tag n harm
IsHarmBelow level effect tag n None = (s : ℕ) (harm : Harm) → s < n → HasTag level s tag → ¬ IsHarmedBy level effect s harm

pub record AreHarmsBelow (level : Level) (effect : Effect) (n : ℕ) (harms : List (Option Harm)) : Type 0 where
  pub long : length harms ≡ 65536
  pub told : (tag : ℤ) → FitsSigned w16 tag → IsHarmBelow level effect tag n (slice_index_or harms (cast_unsigned w16 tag) None)

-- so many tags, and no harm of any
pub record ArePlain (n : ℕ) (harms : List (Option Harm)) : Type 0 where
  pub long : length harms ≡ n
  pub none : (k : ℕ) → slice_index_or harms k None ≡ None

-- where the tag of sector s stands among all tags: by its word without the sign
abbrev pub IsTagPlace : Level → ℕ → ℕ → Type 0
IsTagPlace level s at = IsSomeAnd (slice_get (sectors_of level) s) (λ sector. (at ≡ cast_unsigned w16 sector.tag) × FitsSigned w16 sector.tag)
