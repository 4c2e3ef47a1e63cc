use Rattle.std.proofs.Common.{◌<◌, ◌≤◌, sym, subst, arith, rules}
use Rattle.map_tables.specs.BlockMap.{BlockMap, IsBlockOf, IsBlockAlong, count_of}
use Rattle.map_tables.proofs.block_map.BlockMap.block_of.Goals as goal
use Rattle.map_tables.proofs.block_map.BlockMap.block_of.Goals.{In_ok-by}

found : (c : In_ok-by) → IsBlockOf c.args.self.now c.args.point c.in_ok-bx.bx c.in_ok-by.by
found c =
    let column : IsBlockAlong c.self.inside.x c.args.point.x c.in_ok-bx.bx = search rules in
    let row : IsBlockAlong c.self.inside.y c.args.point.y c.in_ok-by.by = search rules in
    let in_width : c.in_ok-bx.bx < count_of c.self.inside.width = search rules in
    let in_height : c.in_ok-by.by < count_of c.self.inside.height = search rules in
    subst
    (λ (map : BlockMap). IsBlockOf map c.args.point c.in_ok-bx.bx c.in_ok-by.by) c.self.view_is
    (record {
      column = column;
      row = row;
      in_width = in_width;
      in_height = in_height;
    })

pub returns-in_err-by-clause-none : goal.returns-in_err-by-clause-none
returns-in_err-by-clause-none c = (
  (λ _ bx by is.
      let inside : IsBlockOf _ c.args.point bx by =
      subst (λ (map : BlockMap). IsBlockOf map c.args.point bx by) (sym c.self.view_is) is in
      let row : IsBlockAlong c.self.inside.y c.args.point.y by = inside.row in
      let below : by < count_of c.self.inside.height = inside.in_height in
      let past : count_of c.self.inside.height ≤ by = search (rules, c.in_err-by.ensures.none) in
      omega arith),
  (λ _. search rules),
)

pub returns-clause-some : goal.returns-clause-some
returns-clause-some c = found c

pub returns-clause-none : goal.returns-clause-none
returns-clause-none c = (
  (λ never. absurd (search rules)),
  (λ none. absurd (none c.in_ok-bx.bx c.in_ok-by.by (found c))),
)
