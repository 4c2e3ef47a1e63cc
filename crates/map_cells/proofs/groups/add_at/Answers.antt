use Rattle.std.proofs.Common.{◌≡◌, ◌∙◌, inl, inr, None, Some, refl, sym, ap}
use Rattle.std.proofs.lemmas.Option.{none-some}
use Rattle.map_cells.specs.Cells.{cell}
use Rattle.map_cells.proofs.BlockLemmas.{none-nothing}
use Rattle.map_cells.proofs.groups.add_at.Goals as goal

pub returns-in_default-clause-adds : goal.returns-in_default-clause-adds
returns-in_default-clause-adds g c =
    let nothing = none-nothing (cell c.args.cells.now) c.args.i c.args.j (sym c.in_default.ensures.value) in
    inl ((λ b begins. none-some b ((nothing b).1 begins)), refl)

pub push_block-requires : goal.push_block-requires
push_block-requires g c = rw c.from.ensures (c.requires.bound c.args.i c.args.j c.in-Some.sector (sym c.in-Some.ensures.value))

pub returns-in_default-block_of_run-clause-adds : goal.returns-in_default-block_of_run-clause-adds
returns-in_default-block_of_run-clause-adds g c =
    inl ((λ b begins. let e : None ≡ Some b = (c.in_default-block_of_run.ensures b).1 begins in cc), refl)

pub returns-clause-adds : goal.returns-clause-adds
returns-clause-adds g c =
    inr (
      c.from.result,
      c.in-Some-block_of_run.block,
      (c.in-Some-block_of_run.ensures c.in-Some-block_of_run.block).0 refl,
      sym c.in-Some.ensures.value ∙ ap Some (sym c.from.ensures),
      c.in_ok-push_block.ensures.pushes,
    )
