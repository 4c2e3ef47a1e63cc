use Rattle.std.proofs.Common.{sym}
use Rattle.map_cells.proofs.way.part_at.Goals as goal

pub near_end-requires-clause-begins : goal.near_end-requires-clause-begins
near_end-requires-clause-begins c = sym (rw c.point.ensures at c.side-first.ensures)

pub returns : goal.returns
returns c =
    let near = c.near_end.ensures in
    record {
      side = c.side-first.result;
      near_word = c.word_at.ensures;
      far_word = rw c.other.ensures at c.word_at-2.ensures;
      some = near.some;
      within = near.within;
      near = rw c.at-partition.ensures at near.near;
      far = rw c.at-partition.ensures at near.far;
    }
