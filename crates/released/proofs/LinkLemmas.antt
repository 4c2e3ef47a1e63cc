-- In a level without the faults F3 to F10 the released game follows no index outside its table, but for backs that N3 and
-- N4 tell.
use Rattle.std.proofs.Common.{◌≡◌, ◌≢◌, ℕ, ◌⊎◌, inl, inr, ℤ, pos, negsuc, List, length, Some, refl, sym, ap, ◌∙◌, subst, arith}
use Rattle.std.specs.Prelude.{IsSomeAnd}
use Rattle.std.specs.Int.{w32, int_bit_xor}
use Rattle.std.specs.List.{slice_get}
use Rattle.std.proofs.lemmas.Bool.{cases_lt}
use Rattle.std.proofs.lemmas.Int.{ints}
use Rattle.std.proofs.lemmas.Option.{same_Some, none-some}
use Rattle.le_rec.specs.declared.records.LineDef.{LineDef}
use Rattle.le_rec.specs.declared.records.Seg.{Seg}
use Rattle.map_level.specs.Level.{Level}
use Rattle.map_level.specs.Links.{linedefs_of, sidedefs_of, segs_of, Names, no_side}
use Rattle.map_level.specs.LinkFaults.{SideNamesNone, TwoSidedWithoutSide, NoSide0}
use Rattle.map_level.specs.SectorOf.{IsLinked}
use Rattle.map_level.specs.declared.finding.Code.TheVariants.{F3, F4, F6, F7, F8, F9}
use Rattle.map_level.specs.declared.reading.Reading.TheVariants.{Signed}
use Rattle.map_level.proofs.LinkedLemmas.{not_of, is_same, record_at, side_by}
use Rattle.released.specs.GroupLines.{item, sidenum}
use Rattle.released.specs.Laws.{LinkedLineDefsInside, LinkedSegsInside, LinkedBackOrNoted}
use Rattle.released.specs.LoadLinks.{IsInside, IsLoadedInside, IsSegLoadedInside, FollowsBack}
use Rattle.released.proofs.SectorLemmas.{segs, linedefs, sidedefs}

-- an index that doesn't name none is inside
inside_of : (count : ℕ) (z : ℤ) → ¬ (¬ Names count z) → IsInside count z
inside_of count (pos n) h = elim (cases_lt n count) [
  | inl below ↦ (omega (arith, ints), omega (arith, ints, below))
  | inr past ↦ absurd (h (λ below. omega (arith, past, below)))
]
inside_of count (negsuc n) h = absurd (h (λ none. none))

-- the record at an index that is one of its table
item_at : {R : Type 0} (records : List R) (z : ℤ) (r : R) → item records z ≡ Some r
    → (m : ℕ) × (z ≡ pos m) × (slice_get records m ≡ Some r)
item_at records (pos m) r e = (m, refl, e)
item_at records (negsuc n) r e = absurd (none-some r e)

named_item : {R : Type 0} (records : List R) (z : ℤ) → ¬ (¬ Names (length records) z)
    → (r : R) × (item records z ≡ Some r)
named_item records (pos n) h = elim (cases_lt n (length records)) [
  | inl below ↦ record_at records n below
  | inr past ↦ absurd (h (λ below. omega (arith, past, below)))
]
named_item records (negsuc n) h = absurd (h (λ none. none))

-- the number of a linedef at a side that is 0 or 1
data AtSide (linedef : LineDef) (side : ℤ) : Type 0 where
  at_front : side ≡ pos 0 → sidenum linedef side ≡ Some linedef.side0 → AtSide linedef side
  at_back : side ≡ pos 1 → sidenum linedef side ≡ Some linedef.side1 → AtSide linedef side

at_side : (linedef : LineDef) (side : ℤ) → ¬ ((side ≢ pos 0) × (side ≢ pos 1))
    → AtSide linedef side
at_side linedef side h = elim (is_same side (pos 0)) [
  | inl zero' ↦ at_front zero' (rw zero' refl)
  | inr not0 ↦ elim (is_same side (pos 1)) [
    | inl one' ↦ at_back one' (rw one' refl)
    | inr not1 ↦ absurd (h (not0, not1))
  ]
]

module _ (level : Level) (e : level.reading ≡ Signed) (linked : IsLinked level) where
  linedef_at : (m : ℕ) (l : LineDef) → slice_get level.linedefs.records m ≡ Some l
      → slice_get (linedefs_of level) m ≡ Some l
  linedef_at m l is = ap (λ ls. slice_get ls m) (linedefs level e) ∙ is

  seg_at : (i : ℕ) (s : Seg) → slice_get level.segs.records i ≡ Some s
      → slice_get (segs_of level) i ≡ Some s
  seg_at i s is = ap (λ ss. slice_get ss i) (segs level e) ∙ is

  -- a sidenum that isn't -1 and doesn't name none
  side_inside : (z : ℤ) → ¬ SideNamesNone level z → z ≢ negsuc 0
      → IsInside (length level.sidedefs.records) z
  side_inside z fine other =
      subst (λ n. IsInside n z) (ap length (sidedefs level e))
      (inside_of (length (sidedefs_of level)) z
      (λ none. fine ((λ same. other (same ∙ ap no_side e)), none)))

  sides_fine : (m : ℕ) (l : LineDef) → slice_get level.linedefs.records m ≡ Some l
      → ¬ (SideNamesNone level l.side0 ⊎ SideNamesNone level l.side1)
  sides_fine m l is = not_of _ _ l (linedef_at m l is) (linked F4 m (omega arith, omega arith))

  pub line_inside : (m : ℕ) (l : LineDef) → slice_get level.linedefs.records m ≡ Some l
      → IsLoadedInside level l
  line_inside m l is =
      let ends = not_of _ _ l (linedef_at m l is) (linked F3 m (omega arith, omega arith)) in
      let sides = sides_fine m l is in
      record {
        v1 = inside_of (length level.vertexes.records) l.v1 (λ none. ends (inl none));
        v2 = inside_of (length level.vertexes.records) l.v2 (λ none. ends (inr none));
        front = side_inside l.side0 (λ none. sides (inl none));
        back = side_inside l.side1 (λ none. sides (inr none));
      }

  seg_side : (i : ℕ) (s : Seg) (l : LineDef) → slice_get level.segs.records i ≡ Some s
      → AtSide l s.side
  seg_side i s l is =
      at_side l s.side (not_of _ _ s (seg_at i s is) (linked F8 i (omega arith, omega arith)))

  -- the sidedef at the seg's side
  front_inside : (i : ℕ) (s : Seg) (l : LineDef) → slice_get level.segs.records i ≡ Some s
      → item level.linedefs.records s.linedef ≡ Some l
      → (side : ℤ) × (sidenum l s.side ≡ Some side) × IsInside (length level.sidedefs.records) side
  front_inside i s l is there =
      let line = item_at level.linedefs.records s.linedef l there in
      let by = side_by level s line.0 l line.1 (linedef_at line.0 l line.2) in
      let absent = not_of _ _ s (seg_at i s is) (linked F9 i (omega arith, omega arith)) in
      let sides = sides_fine line.0 l line.2 in
      let is_there : (z : ℤ) → sidenum l s.side ≡ Some z → z ≢ negsuc 0 =
      λ z at none. absent (by ∙ at ∙ ap Some (none ∙ sym (ap no_side e))) in
      elim (seg_side i s l is) [
        | at_front zero' at ↦
            (l.side0, at, side_inside l.side0 (λ none. sides (inl none)) (is_there l.side0 at))
        | at_back one' at ↦
            (l.side1, at, side_inside l.side1 (λ none. sides (inr none)) (is_there l.side1 at))
      ]

  pub seg_inside : (i : ℕ) (s : Seg) → slice_get level.segs.records i ≡ Some s
      → IsSegLoadedInside level s
  seg_inside i s is =
      let ends = not_of _ _ s (seg_at i s is) (linked F6 i (omega arith, omega arith)) in
      let names = not_of _ _ s (seg_at i s is) (linked F7 i (omega arith, omega arith)) in
      let named : ¬ (¬ Names (length level.linedefs.records) s.linedef) =
      subst (λ (ls : List LineDef). ¬ (¬ Names (length ls) s.linedef)) (linedefs level e) names in
      let line = named_item level.linedefs.records s.linedef named in
      let at = front_inside i s line.0 is line.1 in
      record {
        v1 = inside_of (length level.vertexes.records) s.v1 (λ none. ends (inl none));
        v2 = inside_of (length level.vertexes.records) s.v2 (λ none. ends (inr none));
        linedef = line.0;
        there = line.1;
        side = at.0;
        at_side = at.1;
        sidedef = at.2;
      }

  -- what holds of the linedef of a number
  holds_at : (P : LineDef → Type 0) (m : ℕ) (l : LineDef)
      → slice_get level.linedefs.records m ≡ Some l → P l
      → IsSomeAnd (slice_get (linedefs_of level) m) P
  holds_at P m l is p = subst (λ o. IsSomeAnd o P) (sym (linedef_at m l is)) p

  abbrev IsNoted : Seg → ℤ → Type 0
  IsNoted s back =
      (back ≡ negsuc 0) × (m : ℕ) × (s.linedef ≡ pos m)
      × (TwoSidedWithoutSide level m ⊎ NoSide0 level m)

  pub back_inside : (i : ℕ) (s : Seg) (l : LineDef) (back : ℤ)
      → slice_get level.segs.records i ≡ Some s → FollowsBack level s l back
      → IsInside (length level.sidedefs.records) back ⊎ IsNoted s back
  back_inside i s l z is follows =
      let line = item_at level.linedefs.records s.linedef l follows.there in
      let sides = sides_fine line.0 l line.2 in
      let no_side_is : negsuc 0 ≡ no_side level.reading = sym (ap no_side e) in
      elim (seg_side i s l is) [
        | at_front zero' at ↦
            let second : l.side1 ≡ z =
            same_Some l.side1 z
            (sym (ap (λ side. sidenum l (int_bit_xor w32 side (pos 1))) zero') ∙ follows.at_back) in
            elim (is_same z (negsuc 0)) [
              | inl none ↦
                  inr (
                    none,
                    line.0,
                    line.1,
                    inl (holds_at _ line.0 l line.2
                        (follows.two_sided, second ∙ none ∙ no_side_is)),
                  )
              | inr some ↦
                  inl (side_inside z (subst (λ n. ¬ SideNamesNone level n) second
                  (λ none. sides (inr none))) some)
            ]
        | at_back one' at ↦
            let first : l.side0 ≡ z =
            same_Some l.side0 z
            (sym (ap (λ side. sidenum l (int_bit_xor w32 side (pos 1))) one') ∙ follows.at_back) in
            elim (is_same z (negsuc 0)) [
              | inl none ↦
                  inr (
                    none,
                    line.0,
                    line.1,
                    inr (holds_at _ line.0 l line.2
                        (first ∙ none ∙ no_side_is)),
                  )
              | inr some ↦
                  inl (side_inside z (subst (λ n. ¬ SideNamesNone level n) first
                  (λ none. sides (inl none))) some)
            ]
      ]

pub linedefs_inside : LinkedLineDefsInside
linedefs_inside level m linedef e linked is = line_inside level e linked m linedef is

pub segs_inside : LinkedSegsInside
segs_inside level i seg e linked is = seg_inside level e linked i seg is

pub backs_inside : LinkedBackOrNoted
backs_inside level i seg linedef back e linked is follows =
    back_inside level e linked i seg linedef back is follows
