-- What a demo can hold (ours).
use Rattle.std.specs.Prelude.{◌≢◌, ℕ, ◌<◌, negsuc}
use Rattle.demo_lump.specs.declared.command.Command.{Command}

-- A command that has bytes under a version: its first is the marker where forward is -128, and but
-- for the long form its turn is one byte.
pub record IsWritable (version : ℕ) (command : Command) : Type 0 where
  pub unmarked : command.forward ≢ negsuc 127
  pub small : version ≢ 111 → command.turn < 256
