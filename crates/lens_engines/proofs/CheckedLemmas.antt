-- A check that counts no fault.
use Rattle.std.proofs.Common.{◌≡◌, ◌↔◌, ℕ, ◌<◌, inl, inr, List, refl, sym, ap, ◌∙◌, subst, arith}
use Rattle.std.proofs.lemmas.Bool.{cases_eq, cases_lt}
use Rattle.level_starts.proofs.FormatLemmas.{IsFormat-one}
use Rattle.level_starts.specs.Format.{IsFormat}
use Rattle.level_starts.specs.Starts.{LevelStartsAt}
use Rattle.level_starts.specs.declared.format.Format.TheVariants.{Doom}
use Rattle.map_level.proofs.LevelLemmas.{IsLevelAt-one}
use Rattle.map_level.specs.Level.{Level}
use Rattle.map_level.specs.Opening.{IsLevelAt}
use Rattle.map_tree.specs.Sound.{IsSound}
use Rattle.wad_dir.specs.Entries.{names}
use Rattle.wad_dir.specs.Wad.{Wad}
use Rattle.lens_engines.specs.Check.{CheckAsked, IsJudged, IsLevelText, ToldTo, at_start, with_level}
use Rattle.lens_engines.specs.Laws.{CheckedIsSound}
use Rattle.lens_engines.specs.declared.totals.Totals.{Totals}
use Rattle.lens_texts.specs.Unread.{unread_format}
use Rattle.lens_engines.proofs.CheckLemmas.{kept_faultless, report_kept, sound_kept_faultless}
use Rattle.lens_engines.proofs.UnreadLemmas.{format_of_unread, unread_is_other}

-- all levels that start below an entry are sound
abbrev AreSoundBelow : CheckAsked → List Wad → ℕ → Type 0
AreSoundBelow asked files end =
    (g : ℕ) (level : Level) → g < end → LevelStartsAt (names files) g → IsLevelAt files g asked.judging.reading level → IsSound level

abbrev AreDoom : List Wad → Type 0
AreDoom files = (g : ℕ) → LevelStartsAt (names files) g → IsFormat files g Doom

-- a level of Doom's format is judged
judged : (asked : CheckAsked) (files : List Wad) (g : ℕ) (text : List ℕ) (totals : Totals) → IsFormat files g Doom → (is : IsLevelText asked files g text totals)
    → IsJudged asked files g is.label text totals
judged asked files g text totals doom is = elim is.told [
  | inl told ↦ told.1
  | inr other ↦
      absurd (unread_is_other other.unread (IsFormat-one files g (unread_format other.unread) Doom (format_of_unread files g other.unread other.of_level) doom))
]

-- its faults are none exactly where it is sound
level_faultless : (asked : CheckAsked) (files : List Wad) (g : ℕ) (text : List ℕ) (totals : Totals) → IsFormat files g Doom → IsLevelText asked files g text totals
    → (totals.faults ≡ 0) ↔ ((level : Level) → IsLevelAt files g asked.judging.reading level → IsSound level)
level_faultless asked files g text totals doom is =
    let j = judged asked files g text totals doom is in
    let faults = ap (λ (t : Totals). t.faults) j.adds in (
      (λ zero level there. subst IsSound (IsLevelAt-one files g asked.judging.reading j.level level j.there there) (kept_faultless asked.judging.ignored j.level j.counts (report_kept _ _ _ _ j.are_counts) (sym faults ∙ zero))),
      (λ sound. faults ∙ sound_kept_faultless asked.judging.ignored j.level j.counts (report_kept _ _ _ _ j.are_counts) (sound j.level j.there)),
    )

below_faultless : (asked : CheckAsked) (files : List Wad) (from : ℕ) (text : List ℕ) (totals : Totals) → AreDoom files → ToldTo asked files from text totals
    → (totals.faults ≡ 0) ↔ AreSoundBelow asked files from
below_faultless asked files from text totals doom at_start = ((λ zero g level below. absurd (omega (arith, below))), (λ sound. refl))
below_faultless asked files from text totals doom (with_level before front sum g line one told next is) =
    let earlier = below_faultless asked files before front sum doom told in
    let here = level_faultless asked files g line one (doom g next.starts) is in (
      (λ zero h level below starts there. elim (cases_lt h before) [
        | inl old ↦ earlier.0 (omega (arith, zero)) h level old starts there
        | inr later ↦ elim (cases_eq h g) [
          | inl same ↦ here.0 (omega (arith, zero)) level (subst (λ k. IsLevelAt files k asked.judging.reading level) same there)
          | inr other ↦ absurd (next.first h later (omega (arith, below, other)) starts)
        ]
      ]),
      (λ sound.
          let none = earlier.1 (λ h level below. sound h level (omega (arith, below, next.after))) in
          let zero = here.1 (λ level there. sound g level (omega arith) next.starts there) in
          omega (arith, none, zero)),
    )

pub law_checked_is_sound : CheckedIsSound
law_checked_is_sound asked files before after totals checks doom =
    let below = below_faultless asked files checks.from checks.text totals doom checks.told in (
      (λ zero g level starts there. elim (cases_lt g checks.from) [
        | inl old ↦ below.0 zero g level old starts there
        | inr past ↦ absurd (checks.all g past starts)
      ]),
      (λ sound. below.1 (λ g level old starts there. sound g level starts there)),
    )
