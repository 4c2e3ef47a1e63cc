-- The sector of an ssector that the released game finds is the one as defined.
use Rattle.std.proofs.Common.{◌≡◌, ℕ, ℤ, pos, negsuc, Bool, true, false, List, length, map, Option, Some, None, refl, sym, ap, ◌∙◌}
use Rattle.std.specs.Prelude.{if◌then◌else◌, option_and_then}
use Rattle.std.specs.Ordering.{int_eq}
use Rattle.std.specs.List.{slice_get}
use Rattle.std.proofs.lemmas.List.{map-id}
use Rattle.le_rec.specs.declared.records.LineDef.{LineDef}
use Rattle.le_rec.specs.declared.records.SideDef.{SideDef}
use Rattle.le_rec.specs.declared.records.Seg.{Seg}
use Rattle.le_rec.specs.declared.records.SSector.{SSector}
use Rattle.map_level.specs.Level.{Level}
use Rattle.map_level.specs.Links.{sidedefs_of, segs_of, ssectors_of, linedefs_of, named, no_side, side_at}
use Rattle.map_level.specs.Reading.{linedef_under, sidedef_under, seg_under, ssector_under}
use Rattle.map_level.specs.SectorOf.{first_seg, sidedef_named, sidedef_of, number_named, sector_of}
use Rattle.map_level.specs.declared.reading.Reading.TheVariants.{Signed}
use Rattle.released.specs.GroupLines.{item, sidenum, sector_place, released_seg, released_sidedef, released_sector}
use Rattle.released.specs.Laws.{ReleasedSectorIsSector}

item_is : {R : Type 0} (records : List R) (index : ℤ) → named records index ≡ item records index
item_is records (pos n) = refl
item_is records (negsuc n) = refl

place_is : (count : ℕ) (sector : ℤ) → number_named count sector ≡ sector_place count sector
place_is count (pos n) = refl
place_is count (negsuc n) = refl

no_item : (b : Bool) (o : Option SideDef) → (if b then o else o) ≡ o
no_item true o = refl
no_item false o = refl

named_side : (sidedefs : List SideDef) (side : ℤ)
    → (if int_eq side (negsuc 0) then None else named sidedefs side) ≡ item sidedefs side
named_side sidedefs (pos n) = refl
named_side sidedefs (negsuc n) = no_item (int_eq (negsuc n) (negsuc 0)) None

in_turn : {A B C : Type 0} (o : Option A) (f : A → Option B) (g : B → Option C)
    → option_and_then g (option_and_then f o) ≡ option_and_then (λ x. option_and_then g (f x)) o
in_turn None f g = refl
in_turn (Some x) f g = refl

module _ (level : Level) (e : level.reading ≡ Signed) where
  pub segs : segs_of level ≡ level.segs.records
  segs = ap (λ reading. map (seg_under reading) level.segs.records) e ∙ map-id level.segs.records

  ssectors : ssectors_of level ≡ level.ssectors.records
  ssectors =
      ap (λ reading. map (ssector_under reading) level.ssectors.records) e
      ∙ map-id level.ssectors.records

  pub linedefs : linedefs_of level ≡ level.linedefs.records
  linedefs =
      ap (λ reading. map (linedef_under reading) level.linedefs.records) e
      ∙ map-id level.linedefs.records

  pub sidedefs : sidedefs_of level ≡ level.sidedefs.records
  sidedefs =
      ap (λ reading. map (sidedef_under reading) level.sidedefs.records) e
      ∙ map-id level.sidedefs.records

  seg_is : (t : ℕ) → first_seg level t ≡ released_seg level t
  seg_is t =
      (λ i. option_and_then (λ (s : SSector). named (segs i) s.first) (slice_get (ssectors i) t))
      ∙ (λ i. option_and_then (λ (s : SSector). item_is level.segs.records s.first i)
      (slice_get level.ssectors.records t))

  side_is : (side : ℤ) → sidedef_named level side ≡ item level.sidedefs.records side
  side_is side =
      (λ i. if int_eq side (no_side (e i)) then None else named (sidedefs i) side)
      ∙ named_side level.sidedefs.records side

  sidedef_is : (seg : Seg) → sidedef_of level seg ≡ released_sidedef level seg
  sidedef_is seg =
      in_turn (named (linedefs_of level) seg.linedef) (λ l. side_at l seg.side) (sidedef_named level)
      ∙ (λ i. option_and_then (λ (l : LineDef). option_and_then (λ side. side_is side i) (side_at l seg.side))
      (named (linedefs i) seg.linedef))
      ∙ ap (option_and_then (λ (l : LineDef). option_and_then (item level.sidedefs.records) (sidenum l seg.side)))
      (item_is level.linedefs.records seg.linedef)

  pub sector_is : (t : ℕ) → released_sector level t ≡ sector_of level t
  sector_is t =
      sym (λ i. option_and_then (λ (seg : Seg). option_and_then
      (λ (sidedef : SideDef). place_is (length level.sectors.records) sidedef.sector i)
      (sidedef_is seg i)) (seg_is t i))

pub released_is_sector : ReleasedSectorIsSector
released_is_sector level t e = sector_is level e t
