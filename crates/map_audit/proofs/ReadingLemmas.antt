-- A level that is sound under the signed reading, under the wide one.
use Rattle.std.proofs.Common.{◌≡◌, ◌≢◌, ℕ, ◌<◌, ◌≤◌, ◌⊎◌, inl, inr, ℤ, pos, negsuc, List, length, map, Option, Some, None, refl, sym, ap, ◌∙◌, subst, arith}
use Rattle.std.specs.Prelude.{IsSomeAnd, IsTrue, FitsSigned, option_and_then}
use Rattle.std.specs.Int.{w16}
use Rattle.std.specs.List.{slice_get}
use Rattle.std.specs.Option.{option_map}
use Rattle.std.proofs.lemmas.Bool.{cases_lt, false≢true}
use Rattle.std.proofs.lemmas.Int.{ints}
use Rattle.std.proofs.lemmas.List.{length-map}
use Rattle.std.proofs.lemmas.Option.{slice_get-map, slice_get_past}
use Rattle.le_rec.specs.Bytes.{AreBytes}
use Rattle.le_rec.specs.Record.{linedef, sidedef, vertex, seg, ssector, sector}
use Rattle.le_rec.specs.Table.{records_of}
use Rattle.le_rec.specs.declared.records.LineDef.{LineDef}
use Rattle.le_rec.specs.declared.records.SideDef.{SideDef}
use Rattle.le_rec.specs.declared.records.Seg.{Seg}
use Rattle.le_rec.specs.declared.records.SSector.{SSector}
use Rattle.map_level.specs.Level.{Level, level_of, lump_of}
use Rattle.map_level.specs.Reading.{number_of, linedef_under, sidedef_under, seg_under, ssector_under}
use Rattle.map_level.specs.declared.reading.Reading.{Reading}
use Rattle.map_level.specs.declared.reading.Reading.TheVariants.{Signed, Wide}
use Rattle.map_level.specs.Links.{linedefs_of, sidedefs_of, segs_of, ssectors_of, sectors_of, Names, named, side_at, side_of}
use Rattle.map_level.specs.LinkFaults.{LinkHolds, SideNamesNone, GoesPast}
use Rattle.map_level.specs.Findings.{is_fault}
use Rattle.map_level.specs.SectorOf.{sector_of, sidedef_of, number_named}
use Rattle.map_level.specs.declared.finding.Code.{Code}
use Rattle.map_level.specs.declared.finding.Code.TheVariants.{F3, F4, F5, F6, F7, F8, F9, F10, F17, F18, N1, N2, N3, N4, N5, N6, N11, N12}
use Rattle.map_tree.specs.Paths.{Place}
use Rattle.map_tree.specs.Sound.{IsSound, IsTree, IsNamedOnce}
use Rattle.map_audit.specs.Readings.{KeepsSound}
use Rattle.map_audit.proofs.FileLemmas.{sides_fit}
use Rattle.map_level.proofs.LinkedLemmas.{is_same, not_of, record_at, side_by}
use Rattle.map_audit.proofs.SectorLemmas.{sector_through}
use Rattle.map_audit.proofs.WideLemmas as wide

-- an item under a reading
under : {X Y : Type 0} (f : X → Y) (xs : List X) (k : ℕ) (x : X) → slice_get xs k ≡ Some x
    → slice_get (map f xs) k ≡ Some (f x)
under f xs k x is = slice_get-map f xs k ∙ ap (option_map f) is

-- what doesn't hold of an item that is there
not_under : {X Y : Type 0} (f : X → Y) (P : Y → Type 0) (xs : List X) (k : ℕ) (x : X)
    → slice_get xs k ≡ Some x → ¬ IsSomeAnd (slice_get (map f xs) k) P → ¬ P (f x)
not_under f P xs k x is none = not_of P (slice_get (map f xs) k) (f x) (under f xs k x is) none

same_length : {X Y : Type 0} (f g : X → Y) (xs : List X) → length (map f xs) ≡ length (map g xs)
same_length f g xs = length-map xs f ∙ sym (length-map xs g)

-- a seg's side is 0 or 1
side_cases : (side : ℤ) → ¬ ((side ≢ pos 0) × (side ≢ pos 1)) → (side ≡ pos 0) ⊎ (side ≡ pos 1)
side_cases side h =
    elim (is_same side (pos 0)) [
      | inl is ↦ inl is
      | inr not0 ↦ elim (is_same side (pos 1)) [
        | inl is ↦ inr is
        | inr not1 ↦ absurd (h (not0, not1))
      ]
    ]

-- an ssector that isn't there has no sector
no_sector_at : (level : Level) (t : ℕ) → slice_get (ssectors_of level) t ≡ None
    → sector_of level t ≡ None
no_sector_at level t none =
    let g : SideDef → Option ℕ = λ d. number_named (length (sectors_of level)) d.sector in
    ap (λ o. option_and_then (λ (s : Seg). option_and_then g (sidedef_of level s))
    (option_and_then (λ (x : SSector). named (segs_of level) x.first) o)) none

module _ (label : ℕ) (names lumps : List (List ℕ)) (are : AreBytes (lump_of lumps 2))
    (linked : (code : Code) (i : ℕ) → IsTrue (is_fault code)
    → ¬ LinkHolds (level_of label Signed names lumps) code i) where
  -- the linedef of a seg, under both readings
  line_of : (k : ℕ) (g : Seg) → slice_get (records_of 12 seg (lump_of lumps 5)) k ≡ Some g
      → (m : ℕ) × (l : LineDef) × (g.linedef ≡ pos m)
      × (slice_get (records_of 14 linedef (lump_of lumps 2)) m ≡ Some l)
  line_of k g is =
      let s = level_of label Signed names lumps in
      let segs = records_of 12 seg (lump_of lumps 5) in
      let linedefs = records_of 14 linedef (lump_of lumps 2) in
      let line =
      wide.number_named (length (linedefs_of s)) g.linedef
      (not_under (seg_under Signed) _ segs k g is (linked F7 k refl)) in
      let there =
      record_at linedefs line.0
      (omega (arith, line.2, length-map linedefs (linedef_under Signed))) in
      (line.0, there.0, line.1, there.1)

  side_signed : (g : Seg) (m : ℕ) (l : LineDef) → g.linedef ≡ pos m
      → slice_get (records_of 14 linedef (lump_of lumps 2)) m ≡ Some l
      → side_of (level_of label Signed names lumps) (seg_under Signed g)
      ≡ side_at (linedef_under Signed l) g.side
  side_signed g m l names_it is =
      let linedefs = records_of 14 linedef (lump_of lumps 2) in
      side_by (level_of label Signed names lumps) (seg_under Signed g) m
      (linedef_under Signed l) names_it (under (linedef_under Signed) linedefs m l is)

  side_wide : (g : Seg) (m : ℕ) (l : LineDef) → g.linedef ≡ pos m
      → slice_get (records_of 14 linedef (lump_of lumps 2)) m ≡ Some l
      → side_of (level_of label Wide names lumps) (seg_under Wide g)
      ≡ side_at (linedef_under Wide l) g.side
  side_wide g m l names_it is =
      let linedefs = records_of 14 linedef (lump_of lumps 2) in
      side_by (level_of label Wide names lumps) (seg_under Wide g) m (linedef_under Wide l)
      (ap (number_of Wide) names_it ∙ wide.wide_same m)
      (under (linedef_under Wide) linedefs m l is)

  wide_linked : (code : Code) (i : ℕ) → IsTrue (is_fault code)
      → ¬ LinkHolds (level_of label Wide names lumps) code i
  wide_linked F3 i fault =
      let n = length (records_of 4 vertex (lump_of lumps 4)) in
      wide.none_under (linedef_under Signed) (linedef_under Wide) _ _
      (records_of 14 linedef (lump_of lumps 2)) (λ k l is none. λ some. elim some [
        | inl first ↦ wide.wide_names n l.v1 (λ h. none (inl h)) first
        | inr second ↦ wide.wide_names n l.v2 (λ h. none (inr h)) second
      ]) i (linked F3 i fault)
  wide_linked F4 i fault =
      let sidedefs = records_of 30 sidedef (lump_of lumps 3) in
      let same = same_length (sidedef_under Signed) (sidedef_under Wide) sidedefs in
      let n = length (map (sidedef_under Signed) sidedefs) in
      let narrow = λ (z : ℤ) (some : SideNamesNone (level_of label Wide names lumps) z).
      let p : (z ≢ pos 65535) × (¬ Names n z) =
      (some.0, λ h. some.1 (subst (λ m. Names m z) same h)) in p in
      wide.none_under (linedef_under Signed) (linedef_under Wide) _ _
      (records_of 14 linedef (lump_of lumps 2)) (λ k l is none. λ some. elim some [
        | inl first ↦
            wide.wide_side_names n l.side0 (λ h. none (inl h))
            (narrow (number_of Wide l.side0) first)
        | inr second ↦
            wide.wide_side_names n l.side1 (λ h. none (inr h))
            (narrow (number_of Wide l.side1) second)
      ]) i (linked F4 i fault)
  wide_linked F5 i fault =
      wide.none_under (sidedef_under Signed) (sidedef_under Wide) _ _
      (records_of 30 sidedef (lump_of lumps 3))
      (λ k d is none. wide.wide_names (length
      (records_of 26 sector (lump_of lumps 8))) d.sector none) i (linked F5 i fault)
  wide_linked F6 i fault =
      let n = length (records_of 4 vertex (lump_of lumps 4)) in
      wide.none_under (seg_under Signed) (seg_under Wide) _ _ (records_of 12 seg (lump_of lumps 5))
      (λ k g is none. λ some. elim some [
        | inl first ↦ wide.wide_names n g.v1 (λ h. none (inl h)) first
        | inr second ↦ wide.wide_names n g.v2 (λ h. none (inr h)) second
      ]) i (linked F6 i fault)
  wide_linked F7 i fault =
      let linedefs = records_of 14 linedef (lump_of lumps 2) in
      let same = same_length (linedef_under Signed) (linedef_under Wide) linedefs in
      wide.none_under (seg_under Signed) (seg_under Wide) _ _ (records_of 12 seg (lump_of lumps 5))
      (λ k g is none.
      subst (λ n. ¬ (¬ Names n (number_of Wide g.linedef))) same
      (wide.wide_names (length (map (linedef_under Signed) linedefs)) g.linedef none)) i
      (linked F7 i fault)
  wide_linked F8 i fault =
      wide.none_under (seg_under Signed) (seg_under Wide) _ _ (records_of 12 seg (lump_of lumps 5))
      (λ k g is none. none) i (linked F8 i fault)
  wide_linked F9 i fault =
      wide.none_under (seg_under Signed) (seg_under Wide) _ _ (records_of 12 seg (lump_of lumps 5))
      (λ k g is none. λ some.
      let line = line_of k g is in
      let fits = sides_fit (lump_of lumps 2) are line.0 line.1 line.3 in
      none (side_signed g line.0 line.1 line.2 line.3
      ∙ wide.wide_side_at line.1 g.side fits.0 fits.1
      (sym (side_wide g line.0 line.1 line.2 line.3) ∙ some))) i (linked F9 i fault)
  wide_linked F10 i fault =
      let segs = records_of 12 seg (lump_of lumps 5) in
      let same = same_length (seg_under Signed) (seg_under Wide) segs in
      wide.none_under (ssector_under Signed) (ssector_under Wide) _ _
      (records_of 4 ssector (lump_of lumps 6))
      (λ k t is none.
      subst (λ n. ¬ GoesPast n (number_of Wide t.count) (number_of Wide t.first)) same
      (wide.wide_range (length (map (seg_under Signed) segs)) t.count t.first none))
      i (linked F10 i fault)
  wide_linked F17 i fault =
      λ none.
      linked F17 i fault (
        none.0,
        same_length (ssector_under Signed) (ssector_under Wide)
            (records_of 4 ssector (lump_of lumps 6))
            ∙ none.1,
      )
  wide_linked F18 i fault = λ many. linked F18 i fault many
  wide_linked N1 i fault = absurd (false≢true fault)
  wide_linked N2 i fault = absurd (false≢true fault)
  wide_linked N3 i fault = absurd (false≢true fault)
  wide_linked N4 i fault = absurd (false≢true fault)
  wide_linked N5 i fault = absurd (false≢true fault)
  wide_linked N6 i fault = absurd (false≢true fault)
  wide_linked N11 i fault = absurd (false≢true fault)
  wide_linked N12 i fault = absurd (false≢true fault)
  wide_linked _ i fault = λ none. none

  -- the sector by way of a seg and of a side of its linedef
  same_sector_by : (t k m : ℕ) (x : SSector) (g : Seg) (l : LineDef) (z : ℤ)
      → slice_get (records_of 4 ssector (lump_of lumps 6)) t ≡ Some x → x.first ≡ pos k
      → slice_get (records_of 12 seg (lump_of lumps 5)) k ≡ Some g → g.linedef ≡ pos m
      → slice_get (records_of 14 linedef (lump_of lumps 2)) m ≡ Some l
      → FitsSigned w16 z → side_at (linedef_under Signed l) g.side ≡ Some z
      → side_at (linedef_under Wide l) g.side ≡ Some (number_of Wide z)
      → ¬ SideNamesNone (level_of label Signed names lumps) z
      → sector_of (level_of label Wide names lumps) t
      ≡ sector_of (level_of label Signed names lumps) t
  same_sector_by t k m x g l z is_x first is_g line is_l fits side side_too fine =
      let s = level_of label Signed names lumps in
      let w = level_of label Wide names lumps in
      let ssectors = records_of 4 ssector (lump_of lumps 6) in
      let segs = records_of 12 seg (lump_of lumps 5) in
      let linedefs = records_of 14 linedef (lump_of lumps 2) in
      let sidedefs = records_of 30 sidedef (lump_of lumps 3) in
      let absent = not_under (seg_under Signed) _ segs k g is_g (linked F9 k refl) in
      let other : z ≢ negsuc 0 = λ is. absent (side_signed g m l line is_l ∙ side ∙ ap Some is) in
      let named_p = wide.number_named (length (sidedefs_of s)) z (λ none. fine (other, none)) in
      let p = named_p.0 in
      let there =
      record_at sidedefs p
      (omega (arith, named_p.2, length-map sidedefs (sidedef_under Signed))) in
      let d = there.0 in
      let named_q =
      wide.number_named (length (sectors_of s)) d.sector
      (not_under (sidedef_under Signed) _ sidedefs p d there.1 (linked F5 p refl)) in
      let q = named_q.0 in
      let not_minus : pos p ≢ negsuc 0 = λ is. other (named_p.1 ∙ is) in
      let not_past : pos p ≢ pos 65535 =
      λ is. let e : z ≡ pos 65535 = named_p.1 ∙ is in omega (arith, ints, fits, e) in
      let raised : number_of Wide z ≡ pos p = ap (number_of Wide) named_p.1 ∙ wide.wide_same p in
      sector_through w t k m p q (ssector_under Wide x) (seg_under Wide g) (linedef_under Wide l)
      (sidedef_under Wide d)
      (under (ssector_under Wide) ssectors t x is_x) (ap (number_of Wide) first ∙ wide.wide_same k)
      (under (seg_under Wide) segs k g is_g) (ap (number_of Wide) line ∙ wide.wide_same m)
      (under (linedef_under Wide) linedefs m l is_l) (side_too ∙ ap Some raised) not_past
      (under (sidedef_under Wide) sidedefs p d there.1)
      (ap (number_of Wide) named_q.1 ∙ wide.wide_same q) named_q.2
      ∙ sym (sector_through s t k m p q (ssector_under Signed x) (seg_under Signed g)
      (linedef_under Signed l) (sidedef_under Signed d)
      (under (ssector_under Signed) ssectors t x is_x) first
      (under (seg_under Signed) segs k g is_g) line
      (under (linedef_under Signed) linedefs m l is_l) (side ∙ ap Some named_p.1) not_minus
      (under (sidedef_under Signed) sidedefs p d there.1)
      named_q.1 named_q.2)

  -- an ssector that is there
  same_sector_there : (t : ℕ) → t < length (records_of 4 ssector (lump_of lumps 6))
      → sector_of (level_of label Wide names lumps) t
      ≡ sector_of (level_of label Signed names lumps) t
  same_sector_there t within =
      let s = level_of label Signed names lumps in
      let segs = records_of 12 seg (lump_of lumps 5) in
      let linedefs = records_of 14 linedef (lump_of lumps 2) in
      let there = record_at (records_of 4 ssector (lump_of lumps 6)) t within in
      let x = there.0 in
      let in_range =
      not_under (ssector_under Signed) _ (records_of 4 ssector (lump_of lumps 6)) t x there.1
      (linked F10 t refl) in
      let named_k =
      wide.number_named (length (segs_of s)) x.first (λ none. in_range (inr (inl none))) in
      let k = named_k.0 in
      let seg_there =
      record_at segs k (omega (arith, named_k.2, length-map segs (seg_under Signed))) in
      let g = seg_there.0 in
      let line = line_of k g seg_there.1 in
      let l = line.1 in
      let sides =
      not_under (linedef_under Signed) _ linedefs line.0 l line.3 (linked F4 line.0 refl) in
      let fits = sides_fit (lump_of lumps 2) are line.0 l line.3 in
      elim (side_cases g.side
      (not_under (seg_under Signed) _ segs k g seg_there.1 (linked F8 k refl))) [
        | inl first ↦
            same_sector_by t k line.0 x g l l.side0 there.1 named_k.1 seg_there.1 line.2 line.3
            fits.0
            (ap (side_at (linedef_under Signed l)) first)
            (ap (side_at (linedef_under Wide l)) first) (λ none. sides (inl none))
        | inr second ↦
            same_sector_by t k line.0 x g l l.side1 there.1 named_k.1 seg_there.1 line.2 line.3
            fits.1
            (ap (side_at (linedef_under Signed l)) second)
            (ap (side_at (linedef_under Wide l)) second) (λ none. sides (inr none))
      ]

  no_sector : (reading : Reading) (t : ℕ) → length (records_of 4 ssector (lump_of lumps 6)) ≤ t
      → sector_of (level_of label reading names lumps) t ≡ None
  no_sector reading t past =
      let ssectors = records_of 4 ssector (lump_of lumps 6) in
      no_sector_at (level_of label reading names lumps) t
      (slice_get-map (ssector_under reading) ssectors t
      ∙ ap (option_map (ssector_under reading)) (slice_get_past ssectors t past))

  same_sector : (t : ℕ)
      → sector_of (level_of label Wide names lumps) t
      ≡ sector_of (level_of label Signed names lumps) t
  same_sector t =
      let ssectors = records_of 4 ssector (lump_of lumps 6) in
      elim (cases_lt t (length ssectors)) [
        | inl within ↦ same_sector_there t within
        | inr past ↦ no_sector Wide t past ∙ sym (no_sector Signed t past)
      ]

-- the nodes are the same under both readings
named_once : (label : ℕ) (names lumps : List (List ℕ)) (place : Place)
    → IsNamedOnce (level_of label Signed names lumps) place
    → IsNamedOnce (level_of label Wide names lumps) place
named_once label names lumps place once =
    record { parent = once.parent; side = once.side; names = once.names; only = once.only }

same_tree : (label : ℕ) (names lumps : List (List ℕ)) → IsTree (level_of label Signed names lumps)
    → IsTree (level_of label Wide names lumps)
same_tree label names lumps tree = record {
  words = tree.words;
  origins = tree.origins;
  named = λ place there other. named_once label names lumps place (tree.named place there other);
  root_unnamed = tree.root_unnamed;
  reached = tree.reached;
}

pub wide_keeps_sound : (label : ℕ) (names lumps : List (List ℕ)) → AreBytes (lump_of lumps 2)
    → IsSound (level_of label Signed names lumps)
    → KeepsSound (level_of label Signed names lumps) (level_of label Wide names lumps)
wide_keeps_sound label names lumps are sound = record {
  sound = record {
    linked = wide_linked label names lumps are sound.linked;
    tree = λ some. same_tree label names lumps (sound.tree some);
    alone = sound.alone;
  };
  leaf = λ point t leaf. record { reached = leaf.reached; agrees = leaf.agrees };
  sector = same_sector label names lumps are sound.linked;
}
