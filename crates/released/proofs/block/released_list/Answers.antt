use Rattle.std.proofs.Common.{rules, [], Some, if◌then◌else◌, FitsSigned, w32, ap, sym, ◌∙◌}
use Rattle.std.specs.Int.{w16}
use Rattle.std.proofs.lemmas.Int.{to_z-of_z}
use Rattle.released.specs.BlockLines.{head_word, is_outside, released_block_number, released_block_list}
use Rattle.released.proofs.block.released_list.Goals as goal

pub returns-then-is_outside : goal.returns-then-is_outside
returns-then-is_outside c =
    let words = c.args.words.now in
    let two : FitsSigned w16 (head_word words 2) = search rules in
    let three : FitsSigned w16 (head_word words 3) = search rules in
    let wide : FitsSigned w32 c.from-width.result = search rules in
    let high : FitsSigned w32 c.from.result = search rules in
    let width = to_z-of_z w32 c.from-width.result wide ∙ c.from-width.ensures ∙ to_z-of_z w16 (head_word words 2) two in
    let height = to_z-of_z w32 c.from.result high ∙ c.from.ensures ∙ to_z-of_z w16 (head_word words 3) three in
    let x = to_z-of_z w32 c.args.x c.ranges.x in
    let y = to_z-of_z w32 c.args.y c.ranges.y in
    let outside = c.is_outside.ensures ∙ (λ i. is_outside (width i) (height i) (x i) (y i)) in
    ap (λ b. if b then Some [] else released_block_list words (released_block_number (head_word words 2) c.args.x c.args.y))
    (sym c.if-is_outside.true ∙ outside)

pub returns : goal.returns
returns c =
    let words = c.args.words.now in
    let two : FitsSigned w16 (head_word words 2) = search rules in
    let three : FitsSigned w16 (head_word words 3) = search rules in
    let wide : FitsSigned w32 c.from-width.result = search rules in
    let high : FitsSigned w32 c.from.result = search rules in
    let found : FitsSigned w32 c.block_number.result = search rules in
    let width = to_z-of_z w32 c.from-width.result wide ∙ c.from-width.ensures ∙ to_z-of_z w16 (head_word words 2) two in
    let height = to_z-of_z w32 c.from.result high ∙ c.from.ensures ∙ to_z-of_z w16 (head_word words 3) three in
    let x = to_z-of_z w32 c.args.x c.ranges.x in
    let y = to_z-of_z w32 c.args.y c.ranges.y in
    let outside = c.is_outside.ensures ∙ (λ i. is_outside (width i) (height i) (x i) (y i)) in
    let number = to_z-of_z w32 c.block_number.result found ∙ c.block_number.ensures ∙ (λ i. released_block_number (width i) (x i) (y i)) in
    c.block_list.ensures
    ∙ ap (released_block_list words) number
    ∙ ap (λ b. if b then Some [] else released_block_list words (released_block_number (head_word words 2) c.args.x c.args.y))
    (sym c.if-is_outside.false ∙ outside)
