use Rattle.std.proofs.Common.{rules, ◌∙◌, ℕ, get_or, sym, ap}
use Rattle.std.specs.Vec.{vec_capacity}
use Rattle.map_cells.proofs.GroupLemmas.{none-more, room-more}
use Rattle.map_cells.proofs.groups.empty_lists.Goals as goal

pub loop-sector-preserved : goal.loop-sector-preserved
loop-sector-preserved g c =
    let lists = c.loop-sector.lists.items in
    let more = c.in_ok-with_capacity.field-0 in
    let wanted = λ (s : ℕ). get_or c.args.counts.now s 0 in
    let long = c.loop-sector.invariant.long in
    let exact = c.in_ok-with_capacity.ensures.exact ∙ (c.get-cells.ensures ∙ ap wanted (sym long)) in
    rw c.in_ok-push.ensures.items (record {
      long = search rules;
      none = none-more (λ list. list.items) lists more c.loop-sector.invariant.none c.in_ok-with_capacity.ensures.items;
      room = rw long at (room-more vec_capacity wanted lists more exact (rw long c.loop-sector.invariant.room));
    })
