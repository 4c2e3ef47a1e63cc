-- Facts about levels: that files and a name have at most one, and none where they are refused.
use Rattle.std.proofs.Common.{◌≡◌, ◌≢◌, ◌↔◌, ℕ, ◌+◌, ◌-◌, ◌<◌, ◌≤◌, inl, inr, List, [], length, get_or, Some, None, Result, Ok, Err, IfOk, IfErr, refl, sym, subst, ap, ◌∙◌, arith}
use Rattle.std.specs.List.{slice_get}
use Rattle.std.proofs.lemmas.Bool.{cases_lt}
use Rattle.std.proofs.lemmas.Option.{unwrap_or-slice_get, slice_get_past}
use Rattle.std.specs.Prelude.{unwrap_or}
use Rattle.std.proofs.lemmas.List.{ext_get_or}
use Rattle.wad_dir.specs.Wad.{Wad}
use Rattle.wad_dir.specs.Entries.{joined, names}
use Rattle.wad_dir.specs.Winner.{Wins}
use Rattle.wad_dir.specs.Slice.{IsLump}
use Rattle.wad_dir.proofs.LumpLemmas.{IsLump-one}
use Rattle.wad_dir.proofs.WinnerLemmas.{Wins-one}
use Rattle.map_level.specs.Level.{Level, lump_of}
use Rattle.map_level.specs.Opening.{AreNames, AreLumps, AreThereBelow, IsLevel, IsLevelAt, RefusesLevel, RefusesLevelAt}
use Rattle.map_level.specs.declared.level.LevelFault.{LevelFault}
use Rattle.map_level.specs.declared.level.LevelFault.TheVariants.{NoLabel, Missing, Outside}
use Rattle.map_level.specs.declared.reading.Reading.{Reading}

-- eleven names and ten lumps are one list each
lump-at : (lumps : List (List ℕ)) (i : ℕ) → get_or lumps i [] ≡ lump_of lumps (i + 1)
lump-at lumps i = let e : i + 1 - 1 ≡ i = omega arith in rw e refl

AreLumps-one : (files : List Wad) (label : ℕ) (a b : List (List ℕ)) → AreLumps files label a
    → AreLumps files label b → a ≡ b
AreLumps-one files label a b p q =
    ext_get_or [] a b (p.ten ∙ sym q.ten) (λ i h.
    let below : i < 10 = rw p.ten at h in
    lump-at a i
    ∙ IsLump-one files (label + (i + 1)) (lump_of a (i + 1)) (lump_of b (i + 1))
    (p.each (i + 1) (omega arith) (omega arith)) (q.each (i + 1) (omega arith) (omega arith))
    ∙ sym (lump-at b i))

AreNames-one : (files : List Wad) (label : ℕ) (a b : List (List ℕ)) → AreNames files label a
    → AreNames files label b → a ≡ b
AreNames-one files label a b p q =
    ext_get_or [] a b (p.eleven ∙ sym q.eleven) (λ i h.
    let below : i < 11 = rw p.eleven at h in
    let both : slice_get a i ≡ slice_get b i =
    p.each i (omega arith) ∙ sym (q.each i (omega arith)) in
    sym (unwrap_or-slice_get a i []) ∙ ap (λ o. unwrap_or o []) both ∙ unwrap_or-slice_get b i [])

-- a label has at most one level under a reading, and so have files and a name
pub IsLevelAt-one : (files : List Wad) (label : ℕ) (reading : Reading) (a b : Level)
    → IsLevelAt files label reading a → IsLevelAt files label reading b → a ≡ b
IsLevelAt-one files label reading a b p q =
    let found = AreNames-one files label p.found q.found p.named q.named in
    let lumps = AreLumps-one files label p.lumps q.lumps p.stand q.stand in
    p.is ∙ rw (found, lumps) (sym q.is)

pub IsLevel-one : (files : List Wad) (name : List ℕ) (reading : Reading) (a b : Level)
    → IsLevel files name reading a → IsLevel files name reading b → a ≡ b
IsLevel-one files name reading a b p q =
    let label = Wins-one (names files) name a.label b.label p.wins q.wins in
    IsLevelAt-one files b.label reading a b
    (subst (λ l. IsLevelAt files l reading a) label p.there) q.there

-- where they are refused they have none
there_and_missing : (files : List Wad) (g : ℕ) (lump : List ℕ) → IsLump files g lump
    → length (joined files) ≤ g → ⊥
there_and_missing files g lump there past =
    let none : None ≡ Some there.listed =
    sym (slice_get_past (joined files) g past) ∙ there.numbered in
    cc

pub RefusesLevelAt-no_level : (files : List Wad) (label : ℕ) (reading : Reading)
    (fault : LevelFault) (level : Level)
    → RefusesLevelAt files label fault → IsLevelAt files label reading level → ⊥
RefusesLevelAt-no_level files label reading NoLabel level r p = r
RefusesLevelAt-no_level files label reading (Missing k) level r p =
    there_and_missing files (label + k) (lump_of p.lumps k) (p.stand.each k r.from r.to) r.past
RefusesLevelAt-no_level files label reading (Outside k) level r p =
    r.refused (lump_of p.lumps k) (p.stand.each k r.from r.to)

pub RefusesLevel-no_level : (files : List Wad) (name : List ℕ) (reading : Reading)
    (fault : LevelFault) (level : Level)
    → RefusesLevel files name fault → IsLevel files name reading level → ⊥
RefusesLevel-no_level files name reading NoLabel level r p = r level.label p.wins.named
RefusesLevel-no_level files name reading (Missing k) level r p =
    let label = Wins-one (names files) name r.0 level.label r.1 p.wins in
    RefusesLevelAt-no_level files level.label reading (Missing k) level (rw label at r.2) p.there
RefusesLevel-no_level files name reading (Outside k) level r p =
    let label = Wins-one (names files) name r.0 level.label r.1 p.wins in
    RefusesLevelAt-no_level files level.label reading (Outside k) level (rw label at r.2) p.there

-- a missing entry has no lump
no_lump_past : (files : List Wad) (g : ℕ) → length (joined files) ≤ g → (lump : List ℕ)
    → ¬ IsLump files g lump
no_lump_past files g past lump there = there_and_missing files g lump there past

-- the first lump that isn't there is one
one_first : (files : List Wad) (label k j : ℕ) → AreThereBelow files label k
    → AreThereBelow files label j → 1 ≤ k → 1 ≤ j
    → ((lump : List ℕ) → ¬ IsLump files (label + k) lump)
    → ((lump : List ℕ) → ¬ IsLump files (label + j) lump) → k ≡ j
one_first files label k j before_k before_j from_k from_j none_k none_j =
    elim (cases_lt k j) [
      | inl less ↦ let there = before_j k from_k less in absurd (none_k there.0 there.1)
      | inr more ↦ elim (cases_lt j k) [
        | inl below ↦ let there = before_k j from_j below in absurd (none_j there.0 there.1)
        | inr same ↦ omega arith
      ]
    ]

-- a label is refused for one reason, and so are files and a name
pub RefusesLevelAt-one : (files : List Wad) (label : ℕ) (a b : LevelFault)
    → RefusesLevelAt files label a → RefusesLevelAt files label b → a ≡ b
RefusesLevelAt-one files label NoLabel b r s = absurd r
RefusesLevelAt-one files label (Missing k) NoLabel r s = absurd s
RefusesLevelAt-one files label (Outside k) NoLabel r s = absurd s
RefusesLevelAt-one files label (Missing k) (Missing j) r s =
    ap Missing (one_first files label k j r.before s.before r.from s.from
    (no_lump_past files (label + k) r.past) (no_lump_past files (label + j) s.past))
RefusesLevelAt-one files label (Missing k) (Outside j) r s =
    let same =
    one_first files label k j r.before s.before r.from s.from
    (no_lump_past files (label + k) r.past) s.refused in
    absurd (omega (arith, same, r.past, s.listed))
RefusesLevelAt-one files label (Outside k) (Missing j) r s =
    let same =
    one_first files label k j r.before s.before r.from s.from r.refused
    (no_lump_past files (label + j) s.past) in
    absurd (omega (arith, same, r.listed, s.past))
RefusesLevelAt-one files label (Outside k) (Outside j) r s =
    ap Outside (one_first files label k j r.before s.before r.from s.from r.refused s.refused)

-- the level at a winner is refused
abbrev RefusesWinner : List Wad → List ℕ → LevelFault → Type 0
RefusesWinner files name fault = (label : ℕ) × Wins (names files) name label × RefusesLevelAt files label fault

RefusesWinner-one : (files : List Wad) (name : List ℕ) (a b : LevelFault)
    → RefusesWinner files name a → RefusesWinner files name b → a ≡ b
RefusesWinner-one files name a b r s =
    let label = Wins-one (names files) name r.0 s.0 r.1 s.1 in
    RefusesLevelAt-one files s.0 a b (rw label at r.2) s.2

no_winner : {A : Type 0} (files : List Wad) (name : List ℕ) (label : ℕ)
    → ((g : ℕ) → slice_get (names files) g ≢ Some name) → Wins (names files) name label → A
no_winner files name label none wins = absurd (none label wins.named)

-- files and a name are refused for one reason
pub RefusesLevel-one : (files : List Wad) (name : List ℕ) (a b : LevelFault)
    → RefusesLevel files name a → RefusesLevel files name b → a ≡ b
RefusesLevel-one files name NoLabel NoLabel r s = refl
RefusesLevel-one files name NoLabel (Missing j) r s = no_winner files name s.0 r s.1
RefusesLevel-one files name NoLabel (Outside j) r s = no_winner files name s.0 r s.1
RefusesLevel-one files name (Missing k) NoLabel r s = no_winner files name r.0 s r.1
RefusesLevel-one files name (Outside k) NoLabel r s = no_winner files name r.0 s r.1
RefusesLevel-one files name (Missing k) (Missing j) r s = RefusesWinner-one files name (Missing k) (Missing j) r s
RefusesLevel-one files name (Missing k) (Outside j) r s = RefusesWinner-one files name (Missing k) (Outside j) r s
RefusesLevel-one files name (Outside k) (Missing j) r s = RefusesWinner-one files name (Outside k) (Missing j) r s
RefusesLevel-one files name (Outside k) (Outside j) r s = RefusesWinner-one files name (Outside k) (Outside j) r s

-- an answer that is the level at a label, or the reason why there is none, is the only one
module _ (files : List Wad) (label : ℕ) (reading : Reading) where
  pub only_level : (level : Level) → IsLevelAt files label reading level → (other : Level)
      → (◌≡◌ {A = Result Level LevelFault} (Ok level) (Ok other)) ↔ IsLevelAt files label reading other
  only_level level is other = (
    λ e. let same : level ≡ other = cc in subst (IsLevelAt files label reading) same is,
    λ h. ap (λ l. Ok l) (IsLevelAt-one files label reading level other is h),
  )

  pub no_level : (fault : LevelFault) → RefusesLevelAt files label fault → (level : Level)
      → (◌≡◌ {A = Result Level LevelFault} (Err fault) (Ok level)) ↔ IsLevelAt files label reading level
  no_level fault refused level = (
    λ e. absurd (let f : ⊥ = cc in f),
    λ is. absurd (RefusesLevelAt-no_level files label reading fault level refused is),
  )

  pub only_fault : (fault : LevelFault) → RefusesLevelAt files label fault → (other : LevelFault)
      → (◌≡◌ {A = Result Level LevelFault} (Err fault) (Err other)) ↔ RefusesLevelAt files label other
  only_fault fault refused other = (
    λ e. let same : fault ≡ other = cc in subst (RefusesLevelAt files label) same refused,
    λ r. ap (λ f. Err f) (RefusesLevelAt-one files label fault other refused r),
  )

  -- at the winner of a name it is the name's
  pub level_of_winner : (name : List ℕ) (result : Result Level LevelFault) → Wins (names files) name label
      → ((level : Level) → (result ≡ Ok level) ↔ IsLevelAt files label reading level) → IfOk result (IsLevel files name reading)
  level_of_winner name (Ok level) wins is =
      let there = (is level).0 refl in
      let same : level.label ≡ label = ap (λ (l : Level). l.label) there.is in
      record {
        wins = subst (Wins (names files) name) (sym same) wins;
        there = subst (λ l. IsLevelAt files l reading level) (sym same) there;
      }
  level_of_winner name (Err fault) wins is = tt

  pub refusal_of_winner : (name : List ℕ) (result : Result Level LevelFault) → Wins (names files) name label
      → ((fault : LevelFault) → (result ≡ Err fault) ↔ RefusesLevelAt files label fault) → IfErr result (RefusesLevel files name)
  refusal_of_winner name (Ok level) wins is = tt
  refusal_of_winner name (Err NoLabel) wins is = absurd ((is NoLabel).0 refl)
  refusal_of_winner name (Err (Missing k)) wins is = (label, wins, (is (Missing k)).0 refl)
  refusal_of_winner name (Err (Outside k)) wins is = (label, wins, (is (Outside k)).0 refl)
