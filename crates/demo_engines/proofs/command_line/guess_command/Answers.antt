use Rattle.std.proofs.Common.{ap, ◌∙◌, w8, to_z, of_z}
use Rattle.std.proofs.lemmas.Int.{to_z-of_z}
use Rattle.demo_lump.proofs.WritingLemmas.{same_command}
use Rattle.demo_engines.proofs.ListingLemmas.{space_stops}
use Rattle.demo_engines.proofs.command_line.guess_command.Goals as goal

pub returns : goal.returns
returns c version command rest fits same =
    let forward = c.guess_signed-forward.ensures command.forward _ fits.forward (space_stops _) same in
    let at_side = c.behind_first.ensures 32 _ forward.1 in
    let side = c.guess_signed-side.ensures command.side _ fits.side (space_stops _) at_side in
    let at_turn = c.behind_first-2.ensures 32 _ side.1 in
    let turn = c.guess_word-turn.ensures command.turn _ fits.turn (space_stops _) at_turn in
    let at_buttons = c.behind_first-3.ensures 32 _ turn.1 in
    let buttons = c.guess_hex-buttons.ensures command.buttons rest fits.buttons at_buttons in
    same_command
    (record {
      forward = to_z w8 (of_z w8 c.guess_signed-forward.result.0);
      side = to_z w8 (of_z w8 c.guess_signed-side.result.0);
      turn = c.guess_word-turn.result.0;
      buttons = c.guess_hex-buttons.result;
    })
    command (ap (λ v. to_z w8 (of_z w8 v)) forward.0 ∙ to_z-of_z w8 command.forward fits.forward) (ap (λ v. to_z w8 (of_z w8 v)) side.0 ∙ to_z-of_z w8 command.side fits.side)
    turn.0 buttons
