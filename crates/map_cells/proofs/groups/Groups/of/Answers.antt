use Rattle.std.proofs.Common.{◌≡◌, ◌++◌, length, take, drop, ap, map, subst, arith}
use Rattle.std.proofs.Math.Seq.{take-append_seam}
use Rattle.std.proofs.lemmas.List.{length-map}
use Rattle.map_cells.specs.Cells.{cell}
use Rattle.map_cells.specs.Groups.{AreBlocksBefore}
use Rattle.map_cells.proofs.GroupLemmas.{before-all, before-none}
use Rattle.map_cells.proofs.groups.Groups.of.Goals as goal

pub loop-j-init : goal.loop-j-init
loop-j-init g c = record {
  before = before-none (cell c.args.cells.now) _ c.in_ok-lists.ensures.none;
  few = omega (arith, c.in_ok-lists.ensures.long, c.sector_bound.ensures.few);
  bound = λ i j s shows. omega (arith, c.in_ok-lists.ensures.long, c.sector_bound.ensures.bound i j s shows);
}

pub add_row-requires-clause-before : goal.add_row-requires-clause-before
add_row-requires-clause-before g c = rw c.deref_mut.ensures.value c.loop-j.invariant.before

pub add_row-requires-clause-bound : goal.add_row-requires-clause-bound
add_row-requires-clause-bound g c = rw c.deref_mut.ensures.value c.loop-j.invariant.bound

pub loop-j-preserved : goal.loop-j-preserved
loop-j-preserved g c =
    let new = c.add_row.new.lists in
    let rest = drop (length new) c.loop-j.lists.items in
    let same = ap length c.deref_mut.ensures.value in
    let long : length new ≡ c.loop-j.lists.len = omega (arith, c.in_ok-add_row.ensures.long, c.deref_mut.ensures.len) in
    let whole : take c.loop-j.lists.len (new ++ rest) ≡ new =
    subst (λ n. take n (new ++ rest) ≡ new) long (take-append_seam new rest) in
    rw whole (record {
      before = c.in_ok-add_row.ensures.after;
      few = omega (arith, c.in_ok-add_row.ensures.long, same, c.loop-j.invariant.few);
      bound = λ i j s shows. omega (arith, c.in_ok-add_row.ensures.long, same, c.loop-j.invariant.bound i j s shows);
    })

pub returns : goal.returns
returns g c =
    let seen = cell c.args.cells.now in
    let at : c.loop-j.j ≡ c.rows-j-end.result = omega arith in
    before-all seen c.rows-j-end.result (map (λ list. list.items) c.loop-j.lists.items) c.rows-j-end.ensures.above
    (λ i j s shows. rw length-map (c.loop-j.invariant.bound i j s shows))
    (subst (λ n. AreBlocksBefore seen 0 n (map (λ list. list.items) c.loop-j.lists.items)) at c.loop-j.invariant.before)
