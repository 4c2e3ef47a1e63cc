use Rattle.std.proofs.Common.{FitsSigned, w32, refl, sym}
use Rattle.std.proofs.lemmas.Int.{to_z-of_z}
use Rattle.map_geo.specs.Partition.{partition_of}
use Rattle.map_geo.proofs.PointCountLemmas.{in_fits}
use Rattle.map_tree.proofs.MiddleLemmas.{between_fits, next_fits, next_to, read_as, read_in, read_from, read_to, next_read_fits, next_read_from}
use Rattle.map_tree.proofs.RowLemmas.{alike, ends_differ, ends_ordered, near_side, far_side}
use Rattle.map_tree.proofs.parts.column_parts.Goals as goal

pub last_column-column-requires-clause-ordered : goal.last_column-column-requires-clause-ordered
last_column-column-requires-clause-ordered c =
    let valid = c.x0-left.ensures.valid in
    let left : FitsSigned w32 c.x0-left.result = rw c.x0-left.ensures.value (in_fits _ valid.columns.first_in) in
    let right : FitsSigned w32 c.x1-right.result = rw c.x1-right.ensures.value (in_fits _ valid.columns.last_in) in
    simp to_z-of_z (rw (c.x0-left.ensures.value, c.x1-right.ensures.value) (ends_ordered (partition_of c.args.node.now) c.args.piece.rect valid.columns.ordered (alike (partition_of c.args.node.now) c.args.piece.rect c.requires.together) c.requires.cut))

pub last_column-column-requires-clause-left : goal.last_column-column-requires-clause-left
last_column-column-requires-clause-left c =
    let valid = c.x0-left.ensures.valid in
    let left : FitsSigned w32 c.x0-left.result = rw c.x0-left.ensures.value (in_fits _ valid.columns.first_in) in
    let y : FitsSigned w32 c.y0-y.result = rw c.y0-y.ensures.value (in_fits _ valid.rows.first_in) in
    let at = rw (c.x0-left.ensures.value, c.y0-y.ensures.value) at (simp to_z-of_z at c.at.ensures) in
    simp to_z-of_z (rw (c.x0-left.ensures.value, c.y0-y.ensures.value, c.side-s.ensures, at, c.at-2.ensures) refl)

pub last_column-column-requires-clause-right : goal.last_column-column-requires-clause-right
last_column-column-requires-clause-right c =
    let valid = c.x0-left.ensures.valid in
    let left : FitsSigned w32 c.x0-left.result = rw c.x0-left.ensures.value (in_fits _ valid.columns.first_in) in
    let right : FitsSigned w32 c.x1-right.result = rw c.x1-right.ensures.value (in_fits _ valid.columns.last_in) in
    let y : FitsSigned w32 c.y0-y.result = rw c.y0-y.ensures.value (in_fits _ valid.rows.first_in) in
    let at = rw (c.x0-left.ensures.value, c.y0-y.ensures.value) at (simp to_z-of_z at c.at.ensures) in
    simp to_z-of_z (rw (c.x1-right.ensures.value, c.y0-y.ensures.value, c.side-s.ensures, at, c.at-2.ensures) (ends_differ (partition_of c.args.node.now) c.args.piece.rect (alike (partition_of c.args.node.now) c.args.piece.rect c.requires.together) c.requires.cut))

pub columns_from-requires-clause-to : goal.columns_from-requires-clause-to
columns_from-requires-clause-to c =
    let valid = c.x0-left.ensures.valid in
    let left : FitsSigned w32 c.x0-left.result = rw c.x0-left.ensures.value (in_fits _ valid.columns.first_in) in
    let right : FitsSigned w32 c.x1-right.result = rw c.x1-right.ensures.value (in_fits _ valid.columns.last_in) in
    let last = rw (c.x0-left.ensures.value, c.x1-right.ensures.value) at (simp to_z-of_z at c.last_column-column.ensures) in
    let column = between_fits _ _ _ valid.columns.first_in valid.columns.last_in last.from last.below in
    let next = next_fits _ _ _ valid.columns.first_in valid.columns.last_in last.from last.below in
    simp to_z-of_z (next_to _ _ last.below)

pub returns : goal.returns
returns c =
    let line = partition_of c.args.node.now in
    let rect = c.args.piece.rect in
    let valid = c.x0-left.ensures.valid in
    let left : FitsSigned w32 c.x0-left.result = rw c.x0-left.ensures.value (in_fits _ valid.columns.first_in) in
    let right : FitsSigned w32 c.x1-right.result = rw c.x1-right.ensures.value (in_fits _ valid.columns.last_in) in
    let y : FitsSigned w32 c.y0-y.result = rw c.y0-y.ensures.value (in_fits _ valid.rows.first_in) in
    let at = rw (c.x0-left.ensures.value, c.y0-y.ensures.value) at (simp to_z-of_z at c.at.ensures) in
    let last = rw (c.x0-left.ensures.value, c.x1-right.ensures.value, c.y0-y.ensures.value) at (simp to_z-of_z at c.last_column-column.ensures) in
    let column = between_fits _ _ _ valid.columns.first_in valid.columns.last_in last.from last.below in
    let next = next_fits _ _ _ valid.columns.first_in valid.columns.last_in last.from last.below in
    let first = simp to_z-of_z at c.columns_to.ensures in
    let second = simp to_z-of_z at c.columns_from.ensures in
    let same_rows = alike line rect c.requires.together in
    record {
      s = c.side-s.result;
      c = c.last_column-column.result;
      from = last.from;
      below = last.below;
      near = near_side line rect c.side-s.result c.last_column-column.result same_rows (sym (rw (at, c.at-2.ensures) at c.side-s.ensures)) last;
      far = far_side line rect c.side-s.result c.last_column-column.result same_rows last;
      first = rw (first, c.word_at.ensures);
      second = rw (second, c.word_at-2.ensures, c.other.ensures);
    }

pub at-requires-clause-x_in : goal.at-requires-clause-x_in
at-requires-clause-x_in c = read_in _ _ c.x0-left.ensures.value c.x0-left.ensures.valid.columns.first_in

pub at-requires-clause-y_in : goal.at-requires-clause-y_in
at-requires-clause-y_in c = read_in _ _ c.y0-y.ensures.value c.x0-left.ensures.valid.rows.first_in

pub last_column-column-requires-clause-row_in : goal.last_column-column-requires-clause-row_in
last_column-column-requires-clause-row_in c = read_in _ _ c.y0-y.ensures.value c.x0-left.ensures.valid.rows.first_in

pub last_column-column-requires-clause-left_in : goal.last_column-column-requires-clause-left_in
last_column-column-requires-clause-left_in c = read_in _ _ c.x0-left.ensures.value c.x0-left.ensures.valid.columns.first_in

pub last_column-column-requires-clause-right_in : goal.last_column-column-requires-clause-right_in
last_column-column-requires-clause-right_in c = read_in _ _ c.x1-right.ensures.value c.x0-left.ensures.valid.columns.last_in

pub columns_to-requires-clause-from : goal.columns_to-requires-clause-from
columns_to-requires-clause-from c =
    let columns = c.x0-left.ensures.valid.columns in
    let last = rw (read_as _ _ c.x0-left.ensures.value columns.first_in, read_as _ _ c.x1-right.ensures.value columns.last_in) at c.last_column-column.ensures in
    read_from _ _ _ columns.first_in columns.last_in last.from last.below

pub columns_to-requires-clause-to : goal.columns_to-requires-clause-to
columns_to-requires-clause-to c =
    let columns = c.x0-left.ensures.valid.columns in
    let last = rw (read_as _ _ c.x0-left.ensures.value columns.first_in, read_as _ _ c.x1-right.ensures.value columns.last_in) at c.last_column-column.ensures in
    read_to _ _ _ columns.first_in columns.last_in last.from last.below

pub overflow_add-column : goal.overflow_add-column
overflow_add-column c =
    let columns = c.x0-left.ensures.valid.columns in
    let last = rw (read_as _ _ c.x0-left.ensures.value columns.first_in, read_as _ _ c.x1-right.ensures.value columns.last_in) at c.last_column-column.ensures in
    next_read_fits _ _ _ columns.first_in columns.last_in last.from last.below

pub columns_from-requires-clause-from : goal.columns_from-requires-clause-from
columns_from-requires-clause-from c =
    let columns = c.x0-left.ensures.valid.columns in
    let last = rw (read_as _ _ c.x0-left.ensures.value columns.first_in, read_as _ _ c.x1-right.ensures.value columns.last_in) at c.last_column-column.ensures in
    next_read_from _ _ _ columns.first_in columns.last_in last.from last.below
