use Rattle.std.proofs.Common.{◌≡◌, ◌++◌, [], ◌∷◌, List, sym, subst, arith}
use Rattle.std.proofs.lemmas.Bool.{false≢true}
use Rattle.map_level.specs.Level.{Level}
use Rattle.map_cells.specs.Cells.{AddsRow, GoesOn}
use Rattle.map_cells.specs.Grid.{columns_of}
use Rattle.map_cells.specs.Way.{AllCome, ArePending}
use Rattle.map_cells.specs.declared.way.Stretch.{Stretch}
use Rattle.map_cells.proofs.CellLemmas.{AddsRow-none}
use Rattle.map_cells.proofs.WayLemmas.{come_start, pending_none, pending_pop}
use Rattle.map_cells.proofs.cells.push_together.Goals as goal

pub loop-from-init : goal.loop-from-init
loop-from-init g c =
    let whole = c.start-hand.ensures.end in
    record {
      within = omega arith;
      added = AddsRow-none c.args.shown.now c.args.row.grid c.args.row.j c.args.seen.now;
      rest = λ some. (
        omega (arith, whole),
        omega (arith, whole),
        come_start c.args.shown.now c.args.row c.start-hand.result.end c.start-hand.result.word
            (rw c.level-level.ensures.is at c.start-hand.ensures.word),
        rw c.clear.ensures whole,
      );
    }

pub go_down-run-requires-clause-come : goal.go_down-run-requires-clause-come
go_down-run-requires-clause-come g c =
    let some = c.loop-from-test.true in
    let rest = c.loop-from.invariant.rest (omega (arith, some, c.columns.ensures.value)) in
    subst (λ (level : Level). AllCome level c.args.row c.loop-from.from c.loop-from.hand.end c.loop-from.hand.word)
    (sym c.level-level.ensures.is) rest.2

pub loop-from-preserved-in-Some : goal.loop-from-preserved-in-Some
loop-from-preserved-in-Some g c =
    let columns = columns_of c.args.row.grid in
    let run = c.go_down-run.result in
    let left : ArePending c.args.shown.now c.args.row run.end columns (c.pop.new.self.items ++ c.in-Some.next ∷ []) =
    subst (λ (parts : List Stretch). ArePending c.args.shown.now c.args.row run.end columns parts) c.in-Some.ensures.items
    (subst (λ (level : Level). ArePending level c.args.row run.end columns c.go_down-run.new.pending.items)
    c.level-level.ensures.is c.go_down-run.ensures.pending) in
    let next = pending_pop c.args.shown.now c.args.row run.end columns c.pop.new.self.items c.in-Some.next left in
    record {
      within = c.go_down-run.ensures.within;
      added = (subst (λ (level : Level). GoesOn level c.args.row c.loop-from.from run.end c.loop-from.seen c.push_run.new.seen)
          c.level-level.ensures.is c.in_ok-push_run.ensures) c.args.seen.now c.loop-from.invariant.added;
      rest = λ some. (next.0, next.1, next.2, next.3);
    }

pub loop-from-preserved : goal.loop-from-preserved
loop-from-preserved g c =
    let columns = columns_of c.args.row.grid in
    let run = c.go_down-run.result in
    let last =
    pending_none c.level-level.result.now c.args.row run.end columns _ (λ some. false≢true (c.in_default.ensures.variant.1 some))
    c.go_down-run.ensures.pending in
    record {
      within = c.go_down-run.ensures.within;
      added = (subst (λ (level : Level). GoesOn level c.args.row c.loop-from.from run.end c.loop-from.seen c.push_run.new.seen)
          c.level-level.ensures.is c.in_ok-push_run.ensures) c.args.seen.now c.loop-from.invariant.added;
      rest = λ some. absurd (omega (arith, last, some));
    }

pub returns : goal.returns
returns g c =
    let at : c.loop-from.from ≡ columns_of c.args.row.grid =
    omega (arith, c.columns.ensures.value, c.loop-from.invariant.within, c.loop-from-test.false) in
    subst (λ n. AddsRow c.args.shown.now c.args.row.grid c.args.row.j n c.args.seen.now c.loop-from.seen) at c.loop-from.invariant.added
