use Rattle.std.proofs.Common.{◌≡◌, pos, get_or, true, false, sym, arith}
use Rattle.std.specs.Ordering.{int_eq}
use Rattle.std.proofs.lemmas.Option.{get_or_from_slice_get, slice_get_within}
use Rattle.std.proofs.lemmas.List.Sums.{count_by_more_yes, count_by_more_no}
use Rattle.game_warnings.proofs.zero_tag.zero_tagged.Goals as goal
use Rattle.game_warnings.proofs.zero_tag.zero_tagged.Goals.{then-has_zero, else-has_zero}

pub loop-s-preserved : goal.loop-s-preserved
loop-s-preserved c =
    let sectors = c.sectors-sectors.result.records in
    let sector = c.at.result in
    let here = get_or_from_slice_get sectors c.loop-s.s sector sector c.at.ensures in
    let inside = slice_get_within sectors c.loop-s.s sector c.at.ensures in
    elim c.if-has_zero.branch [
      | then-has_zero w ↦
          let is : int_eq (get_or sectors c.loop-s.s sector).tag (pos 0) ≡ true = rw here (sym w.if-has_zero.ensures) in
          let more = count_by_more_yes (λ t. int_eq t.tag (pos 0)) sectors c.loop-s.s sector inside is in
          record { counted = cc; few = omega (arith, w.count-is) }
      | else-has_zero w ↦
          let is : int_eq (get_or sectors c.loop-s.s sector).tag (pos 0) ≡ false = rw here (sym w.if-has_zero.ensures) in
          let more = count_by_more_no (λ t. int_eq t.tag (pos 0)) sectors c.loop-s.s sector inside is in
          record { counted = cc; few = omega (arith, w.count-is) }
    ]
