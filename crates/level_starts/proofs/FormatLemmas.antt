-- Facts about formats: that a label has at most one, and that a level of Doom's opens.
use Rattle.std.proofs.Common.{◌≡◌, ◌↔◌, inl, inr, ℕ, ◌+◌, ◌-◌, ◌<◌, ◌≤◌, List, [], length, get_or, Option, Some, None, refl, sym, subst, ap, ◌∙◌, arith, true, false, Result, Ok, Err, IfOk, Bor}
use Rattle.std.specs.Prelude.{IsErrOf}
use Rattle.std.specs.Result.{is_err}
use Rattle.std.proofs.lemmas.Bool.{cases_lt}
use Rattle.std.proofs.lemmas.Option.{slice_get-get_or, slice_get_within}
use Rattle.wad_dir.specs.Wad.{Wad}
use Rattle.wad_dir.specs.Entries.{joined}
use Rattle.wad_dir.specs.Slice.{IsLump}
use Rattle.wad_dir.proofs.LumpLemmas.{IsLump-one}
use Rattle.wad_dir.specs.declared.lump.LumpFault.{LumpFault}
use Rattle.wad_dir.specs.declared.lump.LumpFault.TheVariants as lump
use Rattle.map_level.proofs.OpeningLemmas.{refused_outside}
use Rattle.map_level.specs.LinkFaults.{usual_names}
use Rattle.map_level.specs.Opening.{AreThereBelow, IsOutsideFile, RefusesLevelAt}
use Rattle.map_level.specs.declared.level.LevelFault.{LevelFault}
use Rattle.map_level.specs.declared.level.LevelFault.TheVariants as fault
use Rattle.level_starts.specs.Format.{IsUsual, AreUsualBelow, IsIncomplete, HasTag, IsFormat}
use Rattle.level_starts.specs.declared.format.Format.{Format}
use Rattle.level_starts.specs.declared.format.Format.TheVariants.{Udmf, Incomplete, Hexen, Outside, Extended, Doom}
use Rattle.level_starts.proofs.StartLemmas.{named_within}

-- an entry that has a place's usual name is there
pub usual_within : (files : List Wad) (g k : ℕ) → 1 ≤ k → k ≤ 10 → IsUsual files g k
    → g + k < length (joined files)
usual_within files g k from to usual =
    named_within files (g + k) (get_or usual_names (k - 1) [])
    (usual ∙ slice_get-get_or usual_names (k - 1) [] (omega arith))

-- a lump that is there has its entry
pub lump_within : (files : List Wad) (g : ℕ) (lump : List ℕ) → IsLump files g lump
    → g < length (joined files)
lump_within files g lump there = slice_get_within (joined files) g there.listed there.numbered

-- an entry of the list whose lump is refused has none
pub none_where_refused : (files : List Wad) (g : ℕ) (answer : Result (Bor (List ℕ)) LumpFault)
    → is_err answer ≡ true
    → (IsErrOf answer lump.NoSuch ↔ (length (joined files) ≤ g))
    → (IsErrOf answer lump.Outside ↔
    ((g < length (joined files)) × ((lump : List ℕ) → ¬ IsLump files g lump)))
    → g < length (joined files) → (lump : List ℕ) → ¬ IsLump files g lump
none_where_refused files g (Ok _) refused no_such outside within = absurd (let f : ⊥ = cc in f)
none_where_refused files g (Err f) refused no_such outside within =
    refused_outside files g f no_such outside within

-- one lump more is there
pub there_more : (files : List Wad) (g k : ℕ) (answer : Result (Bor (List ℕ)) LumpFault)
    → is_err answer ≡ false → IfOk answer (λ lump. IsLump files (g + k) lump.now)
    → AreThereBelow files g k → AreThereBelow files g (k + 1)
there_more files g k (Err f) given ok before = absurd (let n : ⊥ = cc in n)
there_more files g k (Ok lump) given ok before = λ j from below. elim (cases_lt j k) [
  | inl less ↦ before j from less
  | inr upto ↦
      let same : k ≡ j = omega arith in
      (lump.now, subst (λ n. IsLump files (g + n) lump.now) same ok)
]

module _ (files : List Wad) (g : ℕ) where
  -- what tells a format is one
  incomplete_one : (k j : ℕ) → IsIncomplete files g k → IsIncomplete files g j → k ≡ j
  incomplete_one k j p q = elim (cases_lt k j) [
    | inl less ↦ absurd (p.other (q.before k p.from less))
    | inr more ↦ elim (cases_lt j k) [
      | inl below ↦ absurd (q.other (p.before j q.from below))
      | inr same ↦ omega arith
    ]
  ]

  outside_one : (k j : ℕ) → IsOutsideFile files g k → IsOutsideFile files g j → k ≡ j
  outside_one k j p q = elim (cases_lt k j) [
    | inl less ↦ let there = q.before k p.from less in absurd (p.refused there.0 there.1)
    | inr more ↦ elim (cases_lt j k) [
      | inl below ↦ let there = p.before j q.from below in absurd (q.refused there.0 there.1)
      | inr same ↦ omega arith
    ]
  ]

  HasTag-one : (tag other : Option (List ℕ)) → HasTag files g tag → HasTag files g other → tag ≡ other
  HasTag-one tag other p q =
      let nodes = IsLump-one files (g + 7) p.nodes q.nodes p.nodes_there q.nodes_there in
      let ssectors = IsLump-one files (g + 6) p.ssectors q.ssectors p.ssectors_there q.ssectors_there in
      p.tagged ∙ rw (nodes, ssectors) (sym q.tagged)

  -- what tells one excludes what tells others
  whole_or_not : {A : Type 0} (k : ℕ) → AreUsualBelow files g 11 → IsIncomplete files g k → A
  whole_or_not k whole p = absurd (p.other (whole k p.from (omega (arith, p.to))))

  inside_or_not : {A : Type 0} (k : ℕ) → AreThereBelow files g 11 → IsOutsideFile files g k → A
  inside_or_not k inside p =
      let there = inside k p.from (omega (arith, p.to)) in absurd (p.refused there.0 there.1)

  tag_or_not : {A : Type 0} (tag : List ℕ) → HasTag files g (Some tag) → HasTag files g None → A
  tag_or_not tag p q =
      let same : Some tag ≡ None = HasTag-one (Some tag) None p q in
      absurd (let f : ⊥ = cc in f)

  -- a label has at most one format
  pub IsFormat-one : (a b : Format) → IsFormat files g a → IsFormat files g b → a ≡ b
  IsFormat-one Udmf Udmf r s = refl
  IsFormat-one Udmf (Incomplete j) r s = absurd (s.0 r)
  IsFormat-one Udmf Hexen r s = absurd (s.0.0 r)
  IsFormat-one Udmf (Outside j) r s = absurd (s.0.0.0 r)
  IsFormat-one Udmf (Extended u) r s = absurd (s.0.0.0.0 r)
  IsFormat-one Udmf Doom r s = absurd (s.0.0.0.0 r)
  IsFormat-one (Incomplete k) Udmf r s = absurd (r.0 s)
  IsFormat-one (Incomplete k) (Incomplete j) r s = ap Incomplete (incomplete_one k j r.1 s.1)
  IsFormat-one (Incomplete k) Hexen r s = whole_or_not k s.0.1 r.1
  IsFormat-one (Incomplete k) (Outside j) r s = whole_or_not k s.0.0.1 r.1
  IsFormat-one (Incomplete k) (Extended u) r s = whole_or_not k s.0.0.0.1 r.1
  IsFormat-one (Incomplete k) Doom r s = whole_or_not k s.0.0.0.1 r.1
  IsFormat-one Hexen Udmf r s = absurd (r.0.0 s)
  IsFormat-one Hexen (Incomplete j) r s = whole_or_not j r.0.1 s.1
  IsFormat-one Hexen Hexen r s = refl
  IsFormat-one Hexen (Outside j) r s = absurd (s.0.1 r.1)
  IsFormat-one Hexen (Extended u) r s = absurd (s.0.0.1 r.1)
  IsFormat-one Hexen Doom r s = absurd (s.0.0.1 r.1)
  IsFormat-one (Outside k) Udmf r s = absurd (r.0.0.0 s)
  IsFormat-one (Outside k) (Incomplete j) r s = whole_or_not j r.0.0.1 s.1
  IsFormat-one (Outside k) Hexen r s = absurd (r.0.1 s.1)
  IsFormat-one (Outside k) (Outside j) r s = ap Outside (outside_one k j r.1 s.1)
  IsFormat-one (Outside k) (Extended u) r s = inside_or_not k s.0.1 r.1
  IsFormat-one (Outside k) Doom r s = inside_or_not k s.0.1 r.1
  IsFormat-one (Extended t) Udmf r s = absurd (r.0.0.0.0 s)
  IsFormat-one (Extended t) (Incomplete j) r s = whole_or_not j r.0.0.0.1 s.1
  IsFormat-one (Extended t) Hexen r s = absurd (r.0.0.1 s.1)
  IsFormat-one (Extended t) (Outside j) r s = inside_or_not j r.0.1 s.1
  IsFormat-one (Extended t) (Extended u) r s =
      let same : Some t ≡ Some u = HasTag-one (Some t) (Some u) r.1 s.1 in
      ap Extended (let e : t ≡ u = cc in e)
  IsFormat-one (Extended t) Doom r s = tag_or_not t r.1 s.1
  IsFormat-one Doom Udmf r s = absurd (r.0.0.0.0 s)
  IsFormat-one Doom (Incomplete j) r s = whole_or_not j r.0.0.0.1 s.1
  IsFormat-one Doom Hexen r s = absurd (r.0.0.1 s.1)
  IsFormat-one Doom (Outside j) r s = inside_or_not j r.0.1 s.1
  IsFormat-one Doom (Extended u) r s = tag_or_not u s.1 r.1
  IsFormat-one Doom Doom r s = refl

  -- so an answer that is the format is the only one
  pub only_format : (format : Format) → IsFormat files g format → (other : Format)
      → (format ≡ other) ↔ IsFormat files g other
  only_format format is other = (
    λ same. subst (IsFormat files g) same is,
    λ h. IsFormat-one format other is h,
  )

  -- the level of a label whose format is Doom's isn't refused
  pub doom_not_refused : (fault : LevelFault) → IsFormat files g Doom → ¬ RefusesLevelAt files g fault
  doom_not_refused fault.NoLabel doom r = r
  doom_not_refused (fault.Missing k) doom r =
      let there = doom.0.1 k r.from (omega (arith, r.to)) in
      omega (arith, lump_within files (g + k) there.0 there.1, r.past)
  doom_not_refused (fault.Outside k) doom r = inside_or_not k doom.0.1 r
