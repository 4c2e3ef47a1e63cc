-- The sector of an ssector, by way of records that are there.
use Rattle.std.proofs.Common.{◌≡◌, ◌≢◌, ℕ, ◌<◌, pos, false, length, Option, Some, refl, ap, ◌∙◌}
use Rattle.std.specs.Prelude.{option_and_then}
use Rattle.std.specs.List.{slice_get}
use Rattle.std.specs.Bool.{Decides}
use Rattle.std.specs.Ordering.{int_eq}
use Rattle.std.proofs.lemmas.Bool.{lt-ltb, false_from_ne_true}
use Rattle.std.proofs.lemmas.Bool.Decides.{Decides-int_eq}
use Rattle.le_rec.specs.declared.records.LineDef.{LineDef}
use Rattle.le_rec.specs.declared.records.Seg.{Seg}
use Rattle.le_rec.specs.declared.records.SideDef.{SideDef}
use Rattle.le_rec.specs.declared.records.SSector.{SSector}
use Rattle.map_level.specs.Level.{Level}
use Rattle.map_level.specs.Links.{linedefs_of, sidedefs_of, segs_of, ssectors_of, sectors_of, named, no_side, side_at}
use Rattle.map_level.proofs.LinkedLemmas.{side_by}
use Rattle.map_level.specs.SectorOf.{number_named, first_seg, sidedef_of, sidedef_named, sector_of}

module _ (level : Level) where
  -- the sector that the records on the way lead to
  pub sector_through : (t k m p q : ℕ) (ssector : SSector) (seg : Seg) (linedef : LineDef)
      (sidedef : SideDef)
      → slice_get (ssectors_of level) t ≡ Some ssector → ssector.first ≡ pos k
      → slice_get (segs_of level) k ≡ Some seg → seg.linedef ≡ pos m
      → slice_get (linedefs_of level) m ≡ Some linedef → side_at linedef seg.side ≡ Some (pos p)
      → pos p ≢ no_side level.reading
      → slice_get (sidedefs_of level) p ≡ Some sidedef → sidedef.sector ≡ pos q
      → q < length (sectors_of level)
      → sector_of level t ≡ Some q
  sector_through t k m p q ssector seg linedef sidedef is_ssector first is_seg line is_linedef side
      other is_sidedef sector within =
      let count = length (sectors_of level) in
      let g : SideDef → Option ℕ = λ d. number_named count d.sector in
      let f : Seg → Option ℕ = λ s. option_and_then g (sidedef_of level s) in
      let d : Decides (int_eq (pos p) (no_side level.reading)) (pos p ≡ no_side level.reading) =
      Decides-int_eq (pos p) (no_side level.reading) in
      let apart : int_eq (pos p) (no_side level.reading) ≡ false =
      false_from_ne_true (int_eq (pos p) (no_side level.reading)) (λ t. other (d.0 t)) in
      let to_seg : first_seg level t ≡ Some seg =
      ap (λ o. option_and_then (λ (s : SSector). named (segs_of level) s.first) o) is_ssector
      ∙ ap (named (segs_of level)) first ∙ is_seg in
      let to_sidedef : sidedef_named level (pos p) ≡ Some sidedef = rw apart is_sidedef in
      let of_seg : sidedef_of level seg ≡ Some sidedef =
      ap (λ o. option_and_then (sidedef_named level) o)
      (side_by level seg m linedef line is_linedef ∙ side)
      ∙ to_sidedef in
      let number : number_named count sidedef.sector ≡ Some q =
      ap (number_named count) sector ∙ (rw (lt-ltb q count within) refl) in
      ap (λ o. option_and_then f o) to_seg ∙ ap (λ o. option_and_then g o) of_seg ∙ number
