-- The commands of a demo (ticcmd_t of d_ticcmd.h; G_ReadDemoTiccmd and G_WriteDemoTiccmd of g_game.c).
use Rattle.std.specs.Prelude.{◌≡◌, ◌≢◌, ℕ, ℤ, pos, ◌-ℤ◌, ◌==◌, if◌then◌else◌, nat_lt, List, length, slice_index}
use Rattle.le_rec.specs.Number.{unsigned16_at}
use Rattle.demo_lump.specs.declared.command.Command.{Command}

-- the bytes of a command: 5 under the long form, else 4
unfoldable pub command_size : ℕ → ℕ
command_size version = if version == 111 then 5 else 4

-- the signed number of a byte, in two's complement
unfoldable pub signed8 : ℕ → ℤ
signed8 b = if nat_lt b 128 then pos b else pos b -ℤ pos 256

-- the command that four bytes hold
abbrev pub short_command_of : List ℕ → Command
short_command_of bytes = record {
  forward = signed8 (slice_index bytes 0);
  side = signed8 (slice_index bytes 1);
  turn = slice_index bytes 2;
  buttons = slice_index bytes 3;
}

-- the command that five bytes hold, with a turn of two bytes
abbrev pub long_command_of : List ℕ → Command
long_command_of bytes = record {
  forward = signed8 (slice_index bytes 0);
  side = signed8 (slice_index bytes 1);
  turn = unsigned16_at bytes 2;
  buttons = slice_index bytes 4;
}

-- the command that bytes hold under a version
unfoldable pub command_of : ℕ → List ℕ → Command
command_of version bytes = if version == 111 then long_command_of bytes else short_command_of bytes

-- bytes that are a command: they don't begin with the marker
pub record IsCommand (version : ℕ) (bytes : List ℕ) (command : Command) : Type 0 where
  pub long : length bytes ≡ command_size version
  pub unmarked : slice_index bytes 0 ≢ 128
  pub reads : command_of version bytes ≡ command
