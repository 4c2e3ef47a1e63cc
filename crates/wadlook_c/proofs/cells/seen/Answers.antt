use Rattle.std.proofs.Common.{refl, subst}
use Rattle.map_cells.specs.CellCount.{IsCellCount}
use Rattle.wadlook_c.proofs.SeenLemmas.{grid_seen}
use Rattle.wadlook_c.proofs.cells.seen.Goals as goal

pub returns-in_default-clause-err : goal.returns-in_default-clause-err
returns-in_default-clause-err c = λ is. c.in_default.not-Some c.args.view.now.cells ((c.new.ensures c.args.view.now.cells).1 (refl, is.many))

pub returns-in-Ok-clause-ok : goal.returns-in-Ok-clause-ok
returns-in-Ok-clause-ok c =
    let level = c.in_ok-level.level in
    let view = c.args.view.now in
    let counted = (c.new.ensures c.in-Some.count).0 c.in-Some.is in (
      level,
      record {
        accepted = c.in_ok-level.ensures.ok;
        asked = record { many = subst IsCellCount counted.0 counted.1; framed = c.in_ok-framed.ensures.valid };
      },
      grid_seen level view c.in_ok-framed.framed c.in-Some-frame_or_own.frame c.in-Some.count c.new-2.result c.in-Ok.cells.grid c.in_ok-framed.ensures.ok
          c.in-Some-frame_or_own.ensures.some c.new-2.ensures.frame c.new-2.ensures.size counted.0 c.in-Ok.ensures.0,
      c.in-Ok.ensures.1,
    )
