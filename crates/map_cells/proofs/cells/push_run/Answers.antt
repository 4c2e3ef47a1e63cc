use Rattle.std.proofs.Common.{◌-◌, ◌<◌, ◌≤◌, get_or, arith}
use Rattle.map_cells.proofs.ShownLemmas.{front-tells, void-tells}
use Rattle.map_cells.proofs.WayLemmas.{come_leaf, come_listed}
use Rattle.map_cells.proofs.cells.push_run.Goals as goal

pub bounds-sectors-from : goal.bounds-sectors-from
bounds-sectors-from g c =
    let h = c.requires in
    (come_listed c.args.level.now c.args.row c.args.from c.args.run.end c.args.run.word c.from.result c.args.sectors.now h.sound h.ssector h.some
    h.come h.listed c.from.ensures).0

pub push_same-requires-clause-tells : goal.push_same-requires-clause-tells
push_same-requires-clause-tells g c = λ i after below.
    let h = c.requires in
    let listed = come_listed c.args.level.now c.args.row c.args.from c.args.run.end c.args.run.word c.from.result c.args.sectors.now h.sound h.ssector h.some h.come h.listed c.from.ensures in
    let within = h.within in
    let front = c.front_of_segs-front.ensures in
    let ordered = front.ordered in
    let to = front.to in
    let here : i < c.args.run.end = omega (arith, below, ordered, to) in
    void-tells c.args.level.now c.args.row (c.args.run.word - 32768) (get_or c.args.sectors.now c.from.result 0) i h.valid (omega (arith, here, within))
    (come_leaf c.args.level.now c.args.row c.args.from c.args.run.end c.args.run.word h.sound h.ssector h.come i after here)
    listed.1
    (λ before. let inside = (front.exact i (after, here)).1 before in omega (arith, inside.0, below))

pub push_same-requires-2-clause-tells : goal.push_same-requires-2-clause-tells
push_same-requires-2-clause-tells g c = λ i after below.
    let h = c.requires in
    let listed = come_listed c.args.level.now c.args.row c.args.from c.args.run.end c.args.run.word c.from.result c.args.sectors.now h.sound h.ssector h.some h.come h.listed c.from.ensures in
    let within = h.within in
    let front = c.front_of_segs-front.ensures in
    let from = front.from in
    let to = front.to in
    let later : c.args.from ≤ i = omega (arith, after, from) in
    let here : i < c.args.run.end = omega (arith, below, to) in
    front-tells c.args.level.now c.args.row (c.args.run.word - 32768) (get_or c.args.sectors.now c.from.result 0) i h.valid (omega (arith, here, within))
    (come_leaf c.args.level.now c.args.row c.args.from c.args.run.end c.args.run.word h.sound h.ssector h.come i later here)
    listed.1
    ((front.exact i (later, here)).0 (after, below))

pub push_same-requires-3-clause-tells : goal.push_same-requires-3-clause-tells
push_same-requires-3-clause-tells g c = λ i after below.
    let h = c.requires in
    let listed = come_listed c.args.level.now c.args.row c.args.from c.args.run.end c.args.run.word c.from.result c.args.sectors.now h.sound h.ssector h.some h.come h.listed c.from.ensures in
    let within = h.within in
    let front = c.front_of_segs-front.ensures in
    let from = front.from in
    let ordered = front.ordered in
    let later : c.args.from ≤ i = omega (arith, after, from, ordered) in
    void-tells c.args.level.now c.args.row (c.args.run.word - 32768) (get_or c.args.sectors.now c.from.result 0) i h.valid (omega (arith, below, within))
    (come_leaf c.args.level.now c.args.row c.args.from c.args.run.end c.args.run.word h.sound h.ssector h.come i later below)
    listed.1
    (λ before. let inside = (front.exact i (later, below)).1 before in omega (arith, inside.1, after))
