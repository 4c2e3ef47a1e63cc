use Rattle.std.proofs.Common.{◌≤◌, ◌∙◌, ap, length, refl, take, arith, rules}
use Rattle.std.specs.Prelude.{count_by, FitsSigned}
use Rattle.std.specs.Int.{w16}
use Rattle.std.proofs.lemmas.Int.{to_z-of_z}
use Rattle.std.proofs.lemmas.List.{length-take}
use Rattle.std.proofs.lemmas.List.Sums.{count_by-le-length}
use Rattle.game_warnings.specs.Neighbours.{leads_up, lower_by}
use Rattle.game_warnings.specs.Sides.{is_of, sides_in}
use Rattle.game_warnings.proofs.AroundLemmas.{around_more, few_below}
use Rattle.game_warnings.proofs.around.grown.Goals as goal

pub overflow_add-result : goal.overflow_add-result
overflow_add-result c = omega (arith, few_below (is_of c.args.s) c.args.level.now c.args.i c.args.around.linedefs c.requires.before.linedefs, c.requires.few)

pub counted-requires : goal.counted-requires
counted-requires c = omega (arith, few_below (leads_up c.args.level.now c.args.s) c.args.level.now c.args.i c.args.around.higher c.requires.before.higher, c.requires.few)

pub returns : goal.returns
returns c =
    let level = c.args.level.now in
    let before : FitsSigned w16 c.args.around.lowest = search rules in
    let after : FitsSigned w16 c.lowered.result = search rules in
    let lowered = to_z-of_z w16 c.lowered.result after ∙ c.lowered.ensures ∙ ap (λ h. lower_by level c.args.s h c.args.sides) (to_z-of_z w16 c.args.around.lowest before) in
    around_more level c.args.s c.args.i c.args.sides c.requires.at c.requires.of c.args.around _ c.leads_up.result c.requires.before refl c.leads_up.ensures
    c.counted.ensures lowered c.lines_with.ensures
