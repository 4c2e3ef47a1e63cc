use Rattle.std.proofs.Common.{◌≡◌, ◌-◌, refl, subst, arith}
use Rattle.map_geo.specs.Side.{side_of}
use Rattle.map_cells.specs.Row.{point_of}
use Rattle.map_cells.proofs.RowLemmas.{side_between}
use Rattle.map_cells.proofs.WayLemmas.{sides_differ}
use Rattle.map_cells.proofs.way.near_end.Goals.{then-last-from-via-then-last-from, then-last-from-via-else-last-from+then-holds}
use Rattle.map_cells.proofs.way.near_end.Goals as goal

pub returns-then-last-from-clause-near : goal.returns-then-last-from-clause-near
returns-then-last-from-clause-near c = λ i after before.
    let test = c.args.test.now in
    let begins = c.requires.begins in
    elim c.then-last-from.branch [
      | then-last-from-via-then-last-from w ↦
          let same : c.args.from ≡ i = omega (arith, after, before, w.if-last-from.true) in
          subst (λ k. side_of test.partition (point_of test.row k) ≡ test.side) same begins
      | then-last-from-via-else-last-from+then-holds w ↦
          side_between test.partition test.row test.side c.args.from i (c.args.end - 1) after (omega (arith, before)) begins
          (w.if-holds.ensures.0 refl)
    ]

pub met_end-requires-clause-ends : goal.met_end-requires-clause-ends
met_end-requires-clause-ends c =
    sides_differ _ c.args.test.now.side (λ is. let yes = c.if-holds.ensures.1 is in let f : ⊥ = cc in f)

pub returns-clause-far : goal.returns-clause-far
returns-clause-far c = λ i after before. c.met_end.ensures.far i after (omega (arith, before))
