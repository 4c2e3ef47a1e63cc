-- The commands of a demo (G_ReadDemoTiccmd of g_game.c; dsda_ReadExCmd of dsda-doom 0.25.6).
use Rattle.std.specs.Prelude.{◌≡◌, ◌≢◌, ℕ, zero, suc, ◌+◌, ◌/◌, ◌%◌, ◌≤◌, Bool, true, not, ◌==◌, ◌&&◌, nat_le, if◌then◌else◌, Some, None, List, [], ◌∷◌, length, drop, slice_index}
use Rattle.demo_lump.specs.Command.{long_command_of, short_command_of}
use Rattle.demo_lump.specs.Pieces.{AreJoined}
use Rattle.later_demos.specs.declared.command.Actions.{Actions}
use Rattle.later_demos.specs.declared.command.CommandForm.{CommandForm}
use Rattle.later_demos.specs.declared.command.LaterCommand.{LaterCommand}

-- the bytes of what every command has: five where a turn has two bytes, else four
abbrev pub ticcmd_size : CommandForm → ℕ
ticcmd_size form = if form.long then 5 else 4

-- a slot stands behind the actions: of a saved game where bit 1 is set, and of a loaded one where bit 2 is
abbrev pub saves : ℕ → ℕ
saves actions = actions / 2 % 2

abbrev pub loads : ℕ → ℕ
loads actions = actions / 4 % 2

-- the bytes of the command that bytes begin with
unfoldable pub command_size : CommandForm → List ℕ → ℕ
command_size form bytes =
    if form.actions
    then ticcmd_size form + 1 + saves (slice_index bytes (ticcmd_size form)) + loads (slice_index bytes (ticcmd_size form))
    else ticcmd_size form

-- what the bytes at a place say: the actions, and then the slots
abbrev pub actions_at : List ℕ → ℕ → Actions
actions_at bytes at = record {
  actions = slice_index bytes at;
  save = if saves (slice_index bytes at) == 1 then Some (slice_index bytes (at + 1)) else None;
  load =
      if loads (slice_index bytes at) == 1
      then Some (slice_index bytes (at + 1 + saves (slice_index bytes at))) else None;
}

-- the command that bytes begin with
unfoldable pub command_of : CommandForm → List ℕ → LaterCommand
command_of form bytes = record {
  ticcmd = if form.long then long_command_of bytes else short_command_of bytes;
  actions = if form.actions then Some (actions_at bytes (ticcmd_size form)) else None;
}

-- bytes that are a command: they don't begin with the marker
pub record IsCommand (form : CommandForm) (bytes : List ℕ) (command : LaterCommand) : Type 0 where
  pub long : length bytes ≡ command_size form bytes
  pub unmarked : slice_index bytes 0 ≢ 128
  pub reads : command_of form bytes ≡ command

-- bytes that are commands, one after another
abbrev pub AreCommands : CommandForm → List ℕ → List LaterCommand → Type 0
AreCommands form = AreJoined (IsCommand form)

-- bytes begin with a whole command
unfoldable pub begins : CommandForm → List ℕ → Bool
begins form bytes = nat_le (command_size form bytes) (length bytes) && not (slice_index bytes 0 == 128)

-- the most commands that bytes begin with, and the bytes behind these, found by looking at no more than so many
abbrev pub commands_within : ℕ → CommandForm → List ℕ → List LaterCommand
commands_within zero form bytes = []
commands_within (suc n) form bytes =
    if begins form bytes
    then command_of form bytes ∷ commands_within n form (drop (command_size form bytes) bytes) else []

abbrev pub left_within : ℕ → CommandForm → List ℕ → List ℕ
left_within zero form bytes = bytes
left_within (suc n) form bytes =
    if begins form bytes then left_within n form (drop (command_size form bytes) bytes) else bytes

-- a list has no more commands than bytes
unfoldable pub commands_in : CommandForm → List ℕ → List LaterCommand
commands_in form bytes = commands_within (length bytes) form bytes

unfoldable pub left_in : CommandForm → List ℕ → List ℕ
left_in form bytes = left_within (length bytes) form bytes

-- bytes begin with a whole command of so many bytes
pub record IsNext (form : CommandForm) (bytes : List ℕ) (size : ℕ) : Type 0 where
  pub begun : begins form bytes ≡ true
  pub sized : size ≡ command_size form bytes
  pub within : size ≤ length bytes
  pub least : ticcmd_size form ≤ size
