use Rattle.std.proofs.Common.{◌≡◌, ◌∙◌, ℕ, ◌++◌, [], ◌∷◌, inl, inr, length, List, Option, None, sym, arith}
use Rattle.std.proofs.lemmas.Bool.{cases_lt}
use Rattle.std.proofs.lemmas.List.{get_or_append_left, get_or_push, length_push}
use Rattle.map_level.specs.Level.{Level}
use Rattle.map_cells.specs.Ends.{ListsEnds, line_ends}
use Rattle.map_cells.specs.declared.ends.Ends.{Ends}
use Rattle.map_cells.proofs.ends.listed_ends.Goals as goal

-- a list of the first segs' ends has those of one more
listed_more : (level : Level) (list : List (Option Ends)) (i : ℕ) → length list ≡ i → ListsEnds level list
    → ListsEnds level (list ++ line_ends level i ∷ [])
listed_more level list i long listed k within = elim (cases_lt k (length list)) [
  | inl less ↦ listed k less ∙ sym (get_or_append_left list (line_ends level i ∷ []) None k less)
  | inr past ↦
      let last : k ≡ i = omega (arith, within, past, long, length_push list (line_ends level i)) in
      rw last (sym (get_or_push list (line_ends level i) None i long))
]

pub loop-i-preserved : goal.loop-i-preserved
loop-i-preserved g c =
    let ends = line_ends c.args.level.now c.loop-i.i in
    let old = c.loop-i.list.items in
    let items = rw (c.if-is_err-2.ensures.negation, c.line_ends.ensures) at c.push.ensures.items in
    rw items (record {
      long = omega (arith, length_push old ends, c.loop-i.invariant.long);
      listed = listed_more c.args.level.now old c.loop-i.i c.loop-i.invariant.long c.loop-i.invariant.listed;
    })
