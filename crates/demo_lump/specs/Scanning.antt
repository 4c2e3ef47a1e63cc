-- Commands at the front of bytes, by their number (ours).
use Rattle.std.specs.Prelude.{◌≡◌, ℕ, zero, suc, List, [], ◌∷◌, ◌++◌, length, take, drop}
use Rattle.demo_lump.specs.Pieces.{NoneBegins}
use Rattle.demo_lump.specs.Command.{IsCommand, command_of, command_size}
use Rattle.demo_lump.specs.Demo.{AreCommands}
use Rattle.demo_lump.specs.declared.command.Command.{Command}

-- the first commands of bytes
abbrev pub commands_of : ℕ → ℕ → List ℕ → List Command
commands_of version zero bytes = []
commands_of version (suc n) bytes =
    command_of version (take (command_size version) bytes)
    ∷ commands_of version n (drop (command_size version) bytes)

-- the bytes begin with that many commands, and then come others
pub record Follows (version : ℕ) (bytes : List ℕ) (count : ℕ) (rest : List ℕ) : Type 0 where
  pub body : List ℕ
  pub commands : List Command
  pub joined : bytes ≡ body ++ rest
  pub follow : AreCommands version body commands
  pub counted : length commands ≡ count

-- and these others begin with none
pub record Scans (version : ℕ) (bytes : List ℕ) (count : ℕ) (rest : List ℕ) : Type 0 where
  pub so_far : Follows version bytes count rest
  pub most : NoneBegins (IsCommand version) rest
