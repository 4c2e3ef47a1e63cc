-- In a level without faults F3 to F10 each ssector has a sector.
use Rattle.std.proofs.Common.{◌≡◌, ◌≢◌, ℕ, suc, zero, ◌<◌, ◌⊎◌, inl, inr, ℤ, pos, negsuc, List, [], ◌∷◌, length, get_or, Option, Some, refl, sym, ap, ◌∙◌, subst, arith}
use Rattle.std.specs.Prelude.{◌↔◌, All, IsSomeAnd, false, option_and_then}
use Rattle.std.specs.List.{slice_get}
use Rattle.std.specs.Ordering.{int_eq}
use Rattle.std.specs.Bool.{Decides}
use Rattle.std.proofs.lemmas.List.Elements.{All-contains, Contains-get_or}
use Rattle.std.proofs.lemmas.Bool.{cases_lt, cases_Bool, false≢true, lt-ltb, false_from_ne_true}
use Rattle.std.proofs.lemmas.Bool.Decides.{Decides-int_eq}
use Rattle.le_rec.specs.declared.records.LineDef.{LineDef}
use Rattle.le_rec.specs.declared.records.Seg.{Seg}
use Rattle.le_rec.specs.declared.records.SideDef.{SideDef}
use Rattle.le_rec.specs.declared.records.SSector.{SSector}
use Rattle.map_level.specs.Level.{Level}
use Rattle.map_level.specs.Links.{linedefs_of, sidedefs_of, segs_of, ssectors_of, sectors_of, Names, named, no_side, side_at, side_of}
use Rattle.map_level.specs.LinkFaults.{LinkHolds, SideNamesNone}
use Rattle.map_level.specs.Findings.{AreFindings}
use Rattle.map_level.specs.declared.finding.Finding.{Finding}
use Rattle.map_level.specs.SectorOf.{IsLinkFault, number_named, first_seg, sidedef_of, sidedef_named, sector_of, IsLinked}
use Rattle.map_level.specs.declared.finding.Code.TheVariants.{F4, F5, F7, F8, F9, F10}

-- a record that is there
pub record_at : {X : Type 0} (xs : List X) (i : ℕ) → i < length xs
    → (x : X) × (slice_get xs i ≡ Some x)
record_at [] i h = absurd (omega (arith, h))
record_at (x ∷ xs) zero h = (x, refl)
record_at (x ∷ xs) (suc i) h = record_at xs i (omega (arith, h))

-- what an index that doesn't name none names
named_record : {X : Type 0} (xs : List X) (z : ℤ) → ¬ (¬ Names (length xs) z)
    → (k : ℕ) × (x : X) × (z ≡ pos k) × (slice_get xs k ≡ Some x)
named_record xs (pos n) h = elim (cases_lt n (length xs)) [
  | inl below ↦ let there = record_at xs n below in (n, there.0, refl, there.1)
  | inr past ↦ absurd (h (λ below. omega (arith, past, below)))
]
named_record xs (negsuc n) h = absurd (h (λ none. none))

-- what doesn't hold of a record that is there
pub not_of : {X : Type 0} (P : X → Type 0) (o : Option X) (x : X) → o ≡ Some x → ¬ IsSomeAnd o P
    → ¬ P x
not_of P o x e none p = none (subst (λ o. IsSomeAnd o P) (sym e) p)

-- two numbers are one or not
pub is_same : (y z : ℤ) → (y ≡ z) ⊎ (y ≢ z)
is_same y z =
    let d : Decides (int_eq y z) (y ≡ z) = Decides-int_eq y z in
    elim (cases_Bool (int_eq y z)) [
      | inl same ↦ inl (d.0 same)
      | inr other ↦ inr (λ is. false≢true (sym other ∙ d.1 is))
    ]

-- the index at a side number that is 0 or 1
side_there : (linedef : LineDef) (side : ℤ) → ¬ ((side ≢ pos 0) × (side ≢ pos 1))
    → (side_at linedef side ≡ Some linedef.side0) ⊎ (side_at linedef side ≡ Some linedef.side1)
side_there linedef side h = elim (is_same side (pos 0)) [
  | inl zero' ↦ inl (rw zero' refl)
  | inr not0 ↦ elim (is_same side (pos 1)) [
    | inl one' ↦ inr (rw one' refl)
    | inr not1 ↦ absurd (h (not0, not1))
  ]
]

module _ (level : Level) where
  -- the index of a seg's sidedef, by way of its linedef
  pub side_by : (seg : Seg) (m : ℕ) (linedef : LineDef) → seg.linedef ≡ pos m
      → slice_get (linedefs_of level) m ≡ Some linedef
      → side_of level seg ≡ side_at linedef seg.side
  side_by seg m linedef names is =
      let f : LineDef → Option ℤ = λ l. side_at l seg.side in
      ap (λ z. option_and_then f (named (linedefs_of level) z)) names
      ∙ ap (λ o. option_and_then f o) is

module _ (level : Level) (linked : IsLinked level) where
  -- a side that is there and doesn't name none names a sidedef
  sidedef_there : (side : ℤ) → side ≢ no_side level.reading → ¬ SideNamesNone level side
      → (p : ℕ) × (sidedef : SideDef) × (slice_get (sidedefs_of level) p ≡ Some sidedef)
      × (sidedef_named level side ≡ Some sidedef)
  sidedef_there side other fine =
      let there = named_record (sidedefs_of level) side (λ none. fine (other, none)) in
      let d : Decides (int_eq side (no_side level.reading)) (side ≡ no_side level.reading) =
      Decides-int_eq side (no_side level.reading) in
      let apart : int_eq side (no_side level.reading) ≡ false =
      false_from_ne_true (int_eq side (no_side level.reading)) (λ t. other (d.0 t)) in
      (there.0, there.1, there.3, rw apart (ap (named (sidedefs_of level)) there.2 ∙ there.3))

  -- the number of a sector that isn't named by none
  number_there : (z : ℤ) → ¬ (¬ Names (length (sectors_of level)) z)
      → (s : ℕ) × (number_named (length (sectors_of level)) z ≡ Some s)
  number_there (pos n) h = elim (cases_lt n (length (sectors_of level))) [
    | inl below ↦ (n, rw (lt-ltb n (length (sectors_of level)) below) refl)
    | inr past ↦ absurd (h (λ below. omega (arith, past, below)))
  ]
  number_there (negsuc n) h = absurd (h (λ none. none))

  -- the sector by way of a seg and of a side that is there and doesn't name none
  sector_by : (t : ℕ) (seg : Seg) (side : ℤ) → first_seg level t ≡ Some seg
      → side_of level seg ≡ Some side
      → side ≢ no_side level.reading → ¬ SideNamesNone level side
      → (s : ℕ) × (sector_of level t ≡ Some s)
  sector_by t seg side first on other fine =
      let there = sidedef_there side other fine in
      let second : sidedef_of level seg ≡ Some there.1 =
      ap (λ o. option_and_then (sidedef_named level) o) on ∙ there.3 in
      let sector =
      number_there there.1.sector
      (not_of _ _ there.1 there.2 (linked F5 there.0 (omega arith, omega arith))) in
      let g : SideDef → Option ℕ = λ d. number_named (length (sectors_of level)) d.sector in
      let f : Seg → Option ℕ = λ s. option_and_then g (sidedef_of level s) in (
        sector.0,
        ap (λ o. option_and_then f o) first ∙ ap (λ o. option_and_then g o) second ∙ sector.1,
      )

  -- each ssector has a sector
  pub linked_sector : (t : ℕ) → t < length (ssectors_of level)
      → (s : ℕ) × (sector_of level t ≡ Some s)
  linked_sector t within =
      let ssector = record_at (ssectors_of level) t within in
      let in_range = not_of _ _ ssector.0 ssector.1 (linked F10 t (omega arith, omega arith)) in
      let seg = named_record (segs_of level) ssector.0.first (λ none. in_range (inr (inl none))) in
      let first : first_seg level t ≡ Some seg.1 =
      ap (λ o. option_and_then (λ (s : SSector). named (segs_of level) s.first) o) ssector.1
      ∙ ap (named (segs_of level)) seg.2 ∙ seg.3 in
      let line =
      named_record (linedefs_of level) seg.1.linedef
      (not_of _ _ seg.1 seg.3 (linked F7 seg.0 (omega arith, omega arith))) in
      let by = side_by level seg.1 line.0 line.1 line.2 line.3 in
      let sides = not_of _ _ line.1 line.3 (linked F4 line.0 (omega arith, omega arith)) in
      let absent = not_of _ _ seg.1 seg.3 (linked F9 seg.0 (omega arith, omega arith)) in
      let on =
      side_there line.1 seg.1.side
      (not_of _ _ seg.1 seg.3 (linked F8 seg.0 (omega arith, omega arith))) in
      let go : (side : ℤ) → side_at line.1 seg.1.side ≡ Some side → ¬ SideNamesNone level side
      → (s : ℕ) × (sector_of level t ≡ Some s) =
      λ side on fine. sector_by t seg.1 side first (by
      ∙ on) (λ is. absent (by ∙ on ∙ ap Some is)) fine in
      elim on [
        | inl first_side ↦ go line.1.side0 first_side (λ none. sides (inl none))
        | inr second_side ↦ go line.1.side1 second_side (λ none. sides (inr none))
      ]

-- a level has no fault F3 to F10 exactly where its findings have none
pub IsLinked-by_findings : (level : Level) (found : List Finding)
    → AreFindings (LinkHolds level) found → (IsLinked level ↔ All (λ f. ¬ IsLinkFault f.code) found)
IsLinked-by_findings level found p = (
  (λ linked. λ k d below fault. let f = get_or found k d in
      linked f.code f.index fault ((p.exact f).0 (Contains-get_or found k d below))),
  (λ none. λ code i fault holds.
      let f : Finding = record { code = code; index = i } in
      All-contains (λ g. ¬ IsLinkFault g.code) found f none ((p.exact f).1 holds) fault),
)
