use Rattle.std.proofs.Common.{◌≡◌, ◌≤◌, length, ap, subst, arith}
use Rattle.le_rec.specs.Table.{Rows}
use Rattle.le_rec.specs.declared.records.Node.{Node}
use Rattle.map_geo.specs.Point.{IsInRange}
use Rattle.map_tree.specs.Child.{node_count}
use Rattle.map_cells.specs.Grid.{columns_of}
use Rattle.map_cells.specs.Way.{ArePending}
use Rattle.map_cells.proofs.WayLemmas.{come_arrives, come_far, come_in, come_in_range, come_near, come_out, come_there, node_there, pending_few, pending_push}
use Rattle.map_cells.proofs.way.go_down.Goals.{then-parted-hand, else-parted-hand}
use Rattle.map_cells.proofs.way.go_down.Goals as goal

pub turns-init : goal.turns-init
turns-init c = record {
  some = c.requires.some;
  within = c.requires.within;
  come = come_in c.args.level.now c.args.row c.args.from c.args.hand.end c.args.hand.word c.requires.come;
  pending = c.requires.pending;
}

pub at-requires : goal.at-requires
at-requires c =
    let there = come_there c.args.level.now c.args.row c.args.from c.turns.hand.end c.turns.hand.word c.turns._turn c.requires.sound c.turns.invariant.some c.if-hand-ge-NF_SUBSECTOR.false c.turns.invariant.come in
    let count : length c.nodes-nodes.result.records ≡ node_count c.args.level.now =
    ap (λ (rows : Rows Node). length rows.records) c.nodes-nodes.ensures.is in
    omega (arith, there, count, c.from.ensures)

in_range : (c : goal.After-part_at-arg-1) → IsInRange c.at.result.x × IsInRange c.at.result.y
in_range c =
    come_in_range c.args.level.now c.args.row c.args.from c.turns.hand.end c.turns.hand.word c.turns._turn c.at.result c.requires.sound c.turns.invariant.some c.if-hand-ge-NF_SUBSECTOR.false c.turns.invariant.come
    (node_there c.args.level.now c.nodes-nodes.result c.turns.hand.word c.from.result c.at.result c.nodes-nodes.ensures.is c.from.ensures c.at.ensures)

pub part_at-parted-requires-clause-x_in : goal.part_at-parted-requires-clause-x_in
part_at-parted-requires-clause-x_in c = (in_range c).0

pub part_at-parted-requires-clause-y_in : goal.part_at-parted-requires-clause-y_in
part_at-parted-requires-clause-y_in c = (in_range c).1

pub push-requires : goal.push-requires
push-requires c =
    let fewer = pending_few c.args.level.now c.args.row c.turns.hand.end (columns_of c.args.row.grid) c.turns.pending.items c.turns.invariant.pending in
    let few = c.requires.few in
    let some = c.turns.invariant.some in
    (omega arith, omega (arith, fewer, few, some))

pub turns-preserved : goal.turns-preserved
turns-preserved c =
    let level = c.args.level.now in
    let row = c.args.row in
    let inv = c.turns.invariant in
    let below = c.if-hand-ge-NF_SUBSECTOR.false in
    let parted = c.part_at-parted.result in
    let is = c.part_at-parted.ensures in
    let there =
    node_there level c.nodes-nodes.result c.turns.hand.word c.from.result c.at.result c.nodes-nodes.ensures.is c.from.ensures c.at.ensures in
    let within = is.within in
    let before = inv.within in
    record {
      some = is.some;
      within = omega (arith, within, before);
      come = come_near level row c.args.from c.turns.hand.end c.turns.hand.word c.turns._turn c.at.result parted c.requires.sound below there is inv.come;
      pending = elim c.if-parted-hand.branch [
        | then-parted-hand w ↦
            rw (w.pending-is, w.push.ensures.items)
            (pending_push level row parted.near.end c.turns.hand.end (columns_of row.grid) parted.far c.turns.pending.items w.if-parted-hand.true
            (come_far level row c.args.from c.turns.hand.end c.turns.hand.word c.turns._turn c.at.result parted c.requires.sound below there is inv.come)
            inv.pending)
        | else-parted-hand w ↦
            let same : c.turns.hand.end ≡ parted.near.end = omega (arith, within, w.if-parted-hand.false) in
            rw w.pending-is (subst (λ e. ArePending level row e (columns_of row.grid) c.turns.pending.items) same inv.pending)
      ];
    }

pub returns-after-turns-clause-ssector : goal.returns-after-turns-clause-ssector
returns-after-turns-clause-ssector c =
    let count : length c.nodes-nodes.result.records ≡ node_count c.args.level.now =
    ap (λ (rows : Rows Node). length rows.records) c.nodes-nodes.ensures.is in
    let enough : node_count c.args.level.now ≤ c.turns._turn = omega (arith, c.turns-test.false, c.len-turn-end.ensures, count) in
    come_arrives c.args.level.now c.args.row c.args.from c.turns.hand.end c.turns.hand.word c.turns._turn c.requires.sound c.turns.invariant.some enough c.turns.invariant.come

pub returns-after-turns-clause-come : goal.returns-after-turns-clause-come
returns-after-turns-clause-come c = come_out c.args.level.now c.args.row c.args.from c.turns.hand.end c.turns.hand.word c.turns._turn c.turns.invariant.come

pub returns-then-hand-ge-NF_SUBSECTOR-clause-come : goal.returns-then-hand-ge-NF_SUBSECTOR-clause-come
returns-then-hand-ge-NF_SUBSECTOR-clause-come c = come_out c.args.level.now c.args.row c.args.from c.turns.hand.end c.turns.hand.word c.turns._turn c.turns.invariant.come
