use Rattle.std.proofs.Common.{rules, sym, ◌∙◌, true, false, FitsSigned, w32}
use Rattle.released.proofs.SideCodeLemmas.{HoldsWords, left_of_upright, right_of_upright, below_level, above_level, signs_differ, signs_agree}
use Rattle.released.proofs.side.released_side.Goals as goal

pub returns-then-node-gt0 : goal.returns-then-node-gt0
returns-then-node-gt0 c =
    let words : HoldsWords c.args.node = record { x = search rules; y = search rules; dx = search rules; dy = search rules } in
    sym (left_of_upright c.args.x c.args.y c.args.node c.ranges.x c.ranges.y words
    c.if-node-eq0.true c.if-x-node.true true c.if-node-gt0.true)

pub returns-then-node-lt0 : goal.returns-then-node-lt0
returns-then-node-lt0 c =
    let words : HoldsWords c.args.node = record { x = search rules; y = search rules; dx = search rules; dy = search rules } in
    sym (right_of_upright c.args.x c.args.y c.args.node c.ranges.x c.ranges.y words
    c.if-node-eq0.true c.if-x-node.false true c.if-node-lt0.true)

pub returns-then-node-lt0-2 : goal.returns-then-node-lt0-2
returns-then-node-lt0-2 c =
    let words : HoldsWords c.args.node = record { x = search rules; y = search rules; dx = search rules; dy = search rules } in
    sym (below_level c.args.x c.args.y c.args.node c.ranges.x c.ranges.y words
    c.if-node-eq0.false c.if-node-eq0-2.true c.if-y-node.true true c.if-node-lt0-2.true)

pub returns-then-node-gt0-2 : goal.returns-then-node-gt0-2
returns-then-node-gt0-2 c =
    let words : HoldsWords c.args.node = record { x = search rules; y = search rules; dx = search rules; dy = search rules } in
    sym (above_level c.args.x c.args.y c.args.node c.ranges.x c.ranges.y words
    c.if-node-eq0.false c.if-node-eq0-2.true c.if-y-node.false true c.if-node-gt0-2.true)

pub returns-else-node-gt0 : goal.returns-else-node-gt0
returns-else-node-gt0 c =
    let words : HoldsWords c.args.node = record { x = search rules; y = search rules; dx = search rules; dy = search rules } in
    sym (left_of_upright c.args.x c.args.y c.args.node c.ranges.x c.ranges.y words
    c.if-node-eq0.true c.if-x-node.true false c.if-node-gt0.false)

pub returns-else-node-lt0 : goal.returns-else-node-lt0
returns-else-node-lt0 c =
    let words : HoldsWords c.args.node = record { x = search rules; y = search rules; dx = search rules; dy = search rules } in
    sym (right_of_upright c.args.x c.args.y c.args.node c.ranges.x c.ranges.y words
    c.if-node-eq0.true c.if-x-node.false false c.if-node-lt0.false)

pub returns-else-node-lt0-2 : goal.returns-else-node-lt0-2
returns-else-node-lt0-2 c =
    let words : HoldsWords c.args.node = record { x = search rules; y = search rules; dx = search rules; dy = search rules } in
    sym (below_level c.args.x c.args.y c.args.node c.ranges.x c.ranges.y words
    c.if-node-eq0.false c.if-node-eq0-2.true c.if-y-node.true false c.if-node-lt0-2.false)

pub returns-else-node-gt0-2 : goal.returns-else-node-gt0-2
returns-else-node-gt0-2 c =
    let words : HoldsWords c.args.node = record { x = search rules; y = search rules; dx = search rules; dy = search rules } in
    sym (above_level c.args.x c.args.y c.args.node c.ranges.x c.ranges.y words
    c.if-node-eq0.false c.if-node-eq0-2.true c.if-y-node.false false c.if-node-gt0-2.false)

pub returns-then-has_sign_bit-2 : goal.returns-then-has_sign_bit-2
returns-then-has_sign_bit-2 c =
    let words : HoldsWords c.args.node = record { x = search rules; y = search rules; dx = search rules; dy = search rules } in
    sym (signs_differ c.args.x c.args.y c.args.node c.ranges.x c.ranges.y words
    c.if-node-eq0.false c.if-node-eq0-2.false c.has_sign_bit.result c.has_sign_bit.ensures
    c.if-has_sign_bit.true true (sym c.if-has_sign_bit-2.true ∙ c.has_sign_bit-then-has_sign_bit.ensures))

pub returns-else-has_sign_bit-2 : goal.returns-else-has_sign_bit-2
returns-else-has_sign_bit-2 c =
    let words : HoldsWords c.args.node = record { x = search rules; y = search rules; dx = search rules; dy = search rules } in
    sym (signs_differ c.args.x c.args.y c.args.node c.ranges.x c.ranges.y words
    c.if-node-eq0.false c.if-node-eq0-2.false c.has_sign_bit.result c.has_sign_bit.ensures
    c.if-has_sign_bit.true false (sym c.if-has_sign_bit-2.false ∙ c.has_sign_bit-then-has_sign_bit.ensures))

pub returns-then-right-left : goal.returns-then-right-left
returns-then-right-left c =
    let words : HoldsWords c.args.node = record { x = search rules; y = search rules; dx = search rules; dy = search rules } in
    let left : FitsSigned w32 c.fixed_mul-left.result = search rules in
    let right : FitsSigned w32 c.fixed_mul-right.result = search rules in
    sym (signs_agree c.args.x c.args.y c.args.node c.ranges.x c.ranges.y words
    c.if-node-eq0.false c.if-node-eq0-2.false c.has_sign_bit.result c.has_sign_bit.ensures
    c.if-has_sign_bit.false c.fixed_mul-left.result c.fixed_mul-right.result left right
    c.fixed_mul-left.ensures c.fixed_mul-right.ensures true c.if-right-left.true)

pub returns-else-right-left : goal.returns-else-right-left
returns-else-right-left c =
    let words : HoldsWords c.args.node = record { x = search rules; y = search rules; dx = search rules; dy = search rules } in
    let left : FitsSigned w32 c.fixed_mul-left.result = search rules in
    let right : FitsSigned w32 c.fixed_mul-right.result = search rules in
    sym (signs_agree c.args.x c.args.y c.args.node c.ranges.x c.ranges.y words
    c.if-node-eq0.false c.if-node-eq0-2.false c.has_sign_bit.result c.has_sign_bit.ensures
    c.if-has_sign_bit.false c.fixed_mul-left.result c.fixed_mul-right.result left right
    c.fixed_mul-left.ensures c.fixed_mul-right.ensures false c.if-right-left.false)
