use Rattle.std.proofs.Common.{◌<◌, length, arith, sym, rules}
use Rattle.std.specs.Prelude.{FitsSigned}
use Rattle.std.specs.Int.{cast_unsigned, w16}
use Rattle.std.proofs.lemmas.Int.{to_z-of_z}
use Rattle.game_warnings.proofs.AnswerLemmas.{adds_answer, adds_door, few_more}
use Rattle.game_warnings.proofs.TagLemmas.{word-below}
use Rattle.game_warnings.proofs.answer.count_answer.Goals as goal

pub returns-then-is_timed_door-clause-adds : goal.returns-then-is_timed_door-clause-adds
returns-then-is_timed_door-clause-adds c =
    let special : FitsSigned w16 c.args.sector.now.special = search rules in
    adds_door c.args.sector.now c.args.counts.now (sym (simp to_z-of_z at c.if-is_timed_door.ensures))

pub returns-clause-adds : goal.returns-clause-adds
returns-clause-adds c =
    let special : FitsSigned w16 c.args.sector.now.special = search rules in
    let tag : FitsSigned w16 c.args.sector.now.tag = search rules in
    let word = simp to_z-of_z at c.cast_unsigned.ensures in
    rw word
    (adds_answer c.args.sector.now c.args.counts.now c.requires.long tag (sym (simp to_z-of_z at c.if-is_timed_door.ensures)))

pub returns-clause-few : goal.returns-clause-few
returns-clause-few c =
    let tag : FitsSigned w16 c.args.sector.now.tag = search rules in
    let word = simp to_z-of_z at c.cast_unsigned.ensures in
    let inside : cast_unsigned w16 c.args.sector.now.tag < length c.args.counts.now = omega (arith, c.requires.long, word-below c.args.sector.now.tag tag) in
    rw word (few_more c.args.counts.now (cast_unsigned w16 c.args.sector.now.tag) c.args.s inside c.requires.few)
