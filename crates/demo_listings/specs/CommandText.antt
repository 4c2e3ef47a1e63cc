-- A command in a line (ours).
use Rattle.std.specs.Prelude.{ℕ, Option, Some, None, List, [], ◌++◌, codes}
use Rattle.std.specs.Fmt.{decimal, signed_decimal}
use Rattle.demo_lump.specs.declared.command.Command.{Command}
use Rattle.later_demos.specs.declared.command.Actions.{Actions}
use Rattle.later_demos.specs.declared.command.LaterCommand.{LaterCommand}
use Rattle.look_engines.specs.Listing.{hex_byte}

-- `50 0 0 00`
abbrev pub ticcmd_text : Command → List ℕ
ticcmd_text c =
    signed_decimal c.forward ++ (codes " " ++ (signed_decimal c.side ++ (codes " " ++ (decimal c.turn ++ (codes " " ++ hex_byte c.buttons)))))

-- the slot of a saved or a loaded game
abbrev pub slot_text : Option ℕ → List ℕ
slot_text None = []
slot_text (Some slot) = codes " " ++ decimal slot

-- ` 06 5 5`: what DSDA-Doom writes behind a command
abbrev pub actions_text : Option Actions → List ℕ
actions_text None = []
actions_text (Some a) = codes " " ++ (hex_byte a.actions ++ (slot_text a.save ++ slot_text a.load))

abbrev pub command_text : LaterCommand → List ℕ
command_text c = ticcmd_text c.ticcmd ++ actions_text c.actions
