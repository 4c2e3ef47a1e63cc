-- The first of some segs that isn't a miniseg.
use Rattle.std.proofs.Common.{◌≡◌, ℕ, zero, suc, ◌+◌, ◌-◌, ◌<◌, refl, sym, ap, ◌∙◌, List, [], ◌∷◌, take, drop, Option, Some, None, arith}
use Rattle.std.specs.Prelude.{option_and_then}
use Rattle.std.specs.List.{slice_get}
use Rattle.std.specs.Option.{option_or}
use Rattle.node_lumps.specs.declared.records.LaterSeg.{LaterSeg}
use Rattle.node_lumps.specs.declared.records.SegLine.{SegLine}
use Rattle.later_levels.specs.SectorOf.{first_line}

-- the linedef's side along which the seg of a number runs
abbrev pub line_at : List LaterSeg → ℕ → Option SegLine
line_at segs i = option_and_then (λ seg. seg.line) (slice_get segs i)

-- the first of so many segs from a number on
abbrev pub first_from : List LaterSeg → ℕ → ℕ → Option SegLine
first_from segs i count = first_line (take count (drop i segs))

-- if the seg of the number runs along one it is that one's, else that of the segs behind it
pub step : (segs : List LaterSeg) (i count : ℕ) → first_from segs i (suc count) ≡ option_or (line_at segs i) (first_from segs (suc i) count)
step [] zero zero = refl
step [] zero (suc count) = refl
step [] (suc i) zero = refl
step [] (suc i) (suc count) = refl
step (seg ∷ segs) zero count = refl
step (seg ∷ segs) (suc i) count = step segs i count

module _ (segs : List LaterSeg) (i end : ℕ) (below : i < end) where
  one_less : (count : ℕ) × (end - i ≡ suc count) × (end - (i + 1) ≡ count)
  one_less = (end - (i + 1), omega (arith, below), refl)

  pub first_here : (line : SegLine) → line_at segs i ≡ Some line → first_from segs i (end - i) ≡ Some line
  first_here line is =
      let count = one_less in
      ap (first_from segs i) count.1 ∙ step segs i count.0
      ∙ ap (λ (o : Option SegLine). option_or o (first_from segs (suc i) count.0)) is

  pub first_behind : line_at segs i ≡ None → first_from segs i (end - i) ≡ first_from segs (i + 1) (end - (i + 1))
  first_behind none =
      let count = one_less in
      let next : suc i ≡ i + 1 = omega arith in
      ap (first_from segs i) count.1 ∙ step segs i count.0
      ∙ ap (λ (o : Option SegLine). option_or o (first_from segs (suc i) count.0)) none
      ∙ ap (λ (k : ℕ). first_from segs k count.0) next ∙ ap (first_from segs (i + 1)) (sym count.2)
