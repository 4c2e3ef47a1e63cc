use Rattle.std.proofs.Common.{◌≡◌, ◌∙◌, ◌+◌, ◌-◌, map, subst, arith}
use Rattle.map_cells.specs.Cells.{cell}
use Rattle.map_cells.specs.Groups.{AreBlocksBefore}
use Rattle.map_cells.proofs.GroupLemmas.{before-next, before-row, before-same}
use Rattle.map_cells.proofs.groups.add_row.Goals as goal

pub loop-i-preserved : goal.loop-i-preserved
loop-i-preserved g c =
    let i = c.loop-i.i in
    let end = c.in_ok-i.i in
    let after = c.in_ok-i.ensures.end.after in
    let to : i + 1 + (end - (i + 1)) ≡ end = omega (arith, after) in
    let seen = cell c.args.cells.now in
    let lists = map (λ list. list.items) c.add_at.new.lists in
    let next = before-next seen i c.args.j (map (λ list. list.items) c.loop-i.lists) lists c.in_ok-i.ensures.adds c.loop-i.invariant.before in
    record {
      before = subst (λ k. AreBlocksBefore seen k c.args.j lists) to
          (before-same seen i c.args.j lists (end - (i + 1)) (λ k from below. c.in_ok-i.ensures.end.same k from (omega (arith, below, to))) next);
      long = c.in_ok-i.ensures.long ∙ c.loop-i.invariant.long;
      within = c.in_ok-i.ensures.end.few;
    }

pub returns-clause-after : goal.returns-clause-after
returns-clause-after g c =
    let at : c.loop-i.i ≡ c.columns.result = omega (arith, c.loop-i.invariant.within, c.columns.ensures.value, c.loop-i-test.false) in
    before-row (cell c.args.cells.now) c.columns.result c.args.j (map (λ list. list.items) c.loop-i.lists)
    c.columns.ensures.beside
    (subst (λ n. AreBlocksBefore (cell c.args.cells.now) n c.args.j (map (λ list. list.items) c.loop-i.lists)) at c.loop-i.invariant.before)
