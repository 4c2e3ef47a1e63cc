use Rattle.std.proofs.Common.{◌≡◌, pos, get_or, true, false, sym, arith}
use Rattle.std.specs.Ordering.{int_eq}
use Rattle.std.proofs.lemmas.Option.{get_or_from_slice_get, slice_get_within}
use Rattle.std.proofs.lemmas.List.Sums.{count_by_more_yes, count_by_more_no}
use Rattle.map_warnings.proofs.starts.deathmatch_starts.Goals as goal
use Rattle.map_warnings.proofs.starts.deathmatch_starts.Goals.{then-is_deathmatch, else-is_deathmatch}

pub loop-k-preserved : goal.loop-k-preserved
loop-k-preserved c =
    let things = c.things-things.result.records in
    let thing = c.at.result in
    let here = get_or_from_slice_get things c.loop-k.k thing thing c.at.ensures in
    let inside = slice_get_within things c.loop-k.k thing c.at.ensures in
    elim c.if-is_deathmatch.branch [
      | then-is_deathmatch w ↦
          let is : int_eq (get_or things c.loop-k.k thing).kind (pos 11) ≡ true = rw here (sym w.if-is_deathmatch.ensures) in
          let more = count_by_more_yes (λ t. int_eq t.kind (pos 11)) things c.loop-k.k thing inside is in
          record { counted = cc; few = omega (arith, w.count-is) }
      | else-is_deathmatch w ↦
          let is : int_eq (get_or things c.loop-k.k thing).kind (pos 11) ≡ false = rw here (sym w.if-is_deathmatch.ensures) in
          let more = count_by_more_no (λ t. int_eq t.kind (pos 11)) things c.loop-k.k thing inside is in
          record { counted = cc; few = omega (arith, w.count-is) }
    ]
