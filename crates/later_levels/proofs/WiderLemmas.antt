-- A level's own nodes, ssectors and segs written wider: each ssector has the same sector.
use Rattle.std.proofs.Common.{◌≡◌, ℕ, ◌≤◌, inl, inr, refl, sym, ap, ◌∙◌, ℤ, List, length, map, Option, Some, None, arith}
use Rattle.std.specs.Prelude.{IsSomeAnd, option_and_then, if◌then◌else◌}
use Rattle.std.specs.Ordering.{int_eq}
use Rattle.std.specs.List.{slice_get}
use Rattle.std.proofs.lemmas.Bool.{cases_lt}
use Rattle.std.proofs.lemmas.List.{length-map}
use Rattle.std.proofs.lemmas.Option.{none-some, slice_get_past}
use Rattle.le_rec.specs.Table.{Rows}
use Rattle.le_rec.specs.declared.records.LineDef.{LineDef}
use Rattle.le_rec.specs.declared.records.Sector.{Sector}
use Rattle.le_rec.specs.declared.records.Seg.{Seg}
use Rattle.le_rec.specs.declared.records.SSector.{SSector}
use Rattle.le_rec.specs.declared.records.SideDef.{SideDef}
use Rattle.map_level.proofs.LinkedLemmas.{record_at}
use Rattle.map_level.specs.Level.{Level}
use Rattle.map_level.specs.Links as links
use Rattle.map_level.specs.Links.{linedefs_of, named, no_side, sectors_of, segs_of, side_at, ssectors_of}
use Rattle.map_level.specs.Reading.{linedef_under, sidedef_under, ssector_under}
use Rattle.map_level.specs.SectorOf.{number_named, sidedef_named, sidedef_of}
use Rattle.map_level.specs.declared.reading.Reading.{Reading}
use Rattle.node_lumps.specs.declared.format.NodeLump.{NodeLump}
use Rattle.node_lumps.specs.declared.records.LaterSeg.{LaterSeg}
use Rattle.node_lumps.specs.declared.records.LaterSsector.{LaterSsector}
use Rattle.node_lumps.specs.declared.records.SegLine.{SegLine}
use Rattle.later_levels.specs.LaterLevel.{LaterLevel}
use Rattle.later_levels.specs.Laws.{SameSector}
use Rattle.later_levels.specs.SectorOf.{line_by, line_of, sector_faced, sector_of}
use Rattle.later_levels.specs.SegFaults.{line_in, side_of}
use Rattle.later_levels.specs.Wider.{IsWider, IsWiderLine, IsWiderSeg, IsWiderSsector}

-- what is told of a thing that is there
some_of : {A : Type 0} (P : A → Type 0) (o : Option A) → IsSomeAnd o P → (x : A) × (o ≡ Some x) × P x
some_of P None h = absurd h
some_of P (Some x) h = (x, refl, h)

none_past : {A : Type 0} (xs : List A) (i : ℕ) → slice_get xs i ≡ None → length xs ≤ i
none_past xs i none = elim (cases_lt i (length xs)) [
  | inr past ↦ past
  | inl within ↦ let there = record_at xs i within in absurd (none-some there.0 (sym none ∙ there.1))
]

bind_assoc : {A B C : Type 0} (o : Option A) (f : A → Option B) (g : B → Option C)
    → option_and_then g (option_and_then f o) ≡ option_and_then (λ x. option_and_then g (f x)) o
bind_assoc None f g = refl
bind_assoc (Some x) f g = refl

-- the sector that a sidedef faces, and that of a seg
abbrev sector_at : Level → SideDef → Option ℕ
sector_at level sidedef = number_named (length (sectors_of level)) sidedef.sector

abbrev faced : Level → Seg → Option ℕ
faced level seg = option_and_then (sector_at level) (sidedef_of level seg)

-- the sector that a linedef's side faces, by what a level has of it
abbrev faced_by : Reading → List LineDef → List SideDef → List Sector → SegLine → Option ℕ
faced_by reading linedefs sidedefs sectors line =
    option_and_then
    (λ side. option_and_then (λ (sidedef : SideDef). number_named (length sectors) sidedef.sector)
    (if int_eq side (no_side reading) then None else named (map (sidedef_under reading) sidedefs) side))
    (option_and_then (λ linedef. side_at linedef line.side) (slice_get (map (linedef_under reading) linedefs) line.linedef))

module _ (level : Level) (one : LaterLevel) (is : IsWider level one) where
  same_level : (line : SegLine) → sector_faced level line ≡ sector_faced one.level line
  same_level line =
      ap (λ (r : Reading). faced_by r level.linedefs.records level.sidedefs.records level.sectors.records line) (sym is.reading)
      ∙ ap (λ (rows : Rows LineDef). faced_by one.level.reading rows.records level.sidedefs.records level.sectors.records line) (sym is.linedefs)
      ∙ ap (λ (rows : Rows SideDef). faced_by one.level.reading one.level.linedefs.records rows.records level.sectors.records line) (sym is.sidedefs)
      ∙ ap (λ (rows : Rows Sector). faced_by one.level.reading one.level.linedefs.records one.level.sidedefs.records rows.records line) (sym is.sectors)

  same_side : (seg : Seg) (line : SegLine) → IsWiderLine seg line → links.side_of level seg ≡ side_of level line
  same_side seg line wider =
      ap (λ (z : ℤ). option_and_then (λ linedef. side_at linedef seg.side) (named (linedefs_of level) z)) wider.linedef
      ∙ ap (λ (z : ℤ). option_and_then (λ linedef. side_at linedef z) (slice_get (linedefs_of level) line.linedef)) wider.side

  same_faced : (seg : Seg) (line : SegLine) → IsWiderLine seg line → faced level seg ≡ sector_faced one.level line
  same_faced seg line wider =
      bind_assoc (links.side_of level seg) (sidedef_named level) (sector_at level)
      ∙ ap (λ (o : Option ℤ). option_and_then (λ side. option_and_then (sector_at level) (sidedef_named level side)) o) (same_side seg line wider)
      ∙ same_level line

  -- a seg faces the same sector
  of_seg : (n : ℕ) (o : Option Seg) → slice_get (segs_of level) n ≡ o
      → option_and_then (faced level) o ≡ option_and_then (sector_faced one.level) (line_in one.later n)
  of_seg n None e =
      let past = slice_get_past one.later.segs n (omega (arith, none_past (segs_of level) n e, is.segs)) in
      sym (ap (λ (o : Option LaterSeg). option_and_then (sector_faced one.level) (option_and_then (λ seg. seg.line) o)) past)
  of_seg n (Some seg) e =
      let found = some_of (IsWiderSeg seg) (slice_get one.later.segs n) (is.seg n seg e) in
      let line = some_of (IsWiderLine seg) found.0.line found.2.line in
      same_faced seg line.0 line.2
      ∙ sym (ap (λ (o : Option LaterSeg). option_and_then (sector_faced one.level) (option_and_then (λ seg. seg.line) o)) found.1
      ∙ ap (option_and_then (sector_faced one.level)) line.1)

  of_ssector : (t : ℕ) (o : Option SSector) → slice_get (ssectors_of level) t ≡ o
      → option_and_then (faced level) (option_and_then (λ ssector. named (segs_of level) ssector.first) o) ≡ sector_of one t
  of_ssector t None e =
      let short = none_past (ssectors_of level) t e in
      let long = length-map level.ssectors.records (ssector_under level.reading) in
      let past = slice_get_past one.later.ssectors t (omega (arith, short, long, is.nodes.ssectors)) in
      sym (ap (λ (o : Option LaterSsector). option_and_then (λ ssector. option_and_then (sector_faced one.level) (line_of one.later ssector)) o) past)
  of_ssector t (Some ssector) e =
      let found = some_of (IsWiderSsector ssector) (slice_get one.later.ssectors t) (is.ssector t ssector e) in
      let first = found.0.first in
      ap (λ (z : ℤ). option_and_then (faced level) (named (segs_of level) z)) found.2.first
      ∙ of_seg first (slice_get (segs_of level) first) refl
      ∙ sym (ap (λ (o : Option LaterSsector). option_and_then (λ ssector. option_and_then (sector_faced one.level) (line_of one.later ssector)) o) found.1
      ∙ ap (λ (lump : NodeLump). option_and_then (sector_faced one.level) (line_by lump one.later found.0)) is.format)

pub same_sector : SameSector
same_sector level one t is = of_ssector level one is t (slice_get (ssectors_of level) t) refl
