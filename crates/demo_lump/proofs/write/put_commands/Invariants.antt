use Rattle.std.proofs.Common.{◌≡◌, ◌*◌, take}
use Rattle.demo_lump.specs.Demo.{AreCommands}
use Rattle.demo_lump.proofs.write.put_commands.Given as goal

abbrev pub invariant-loop-command : goal.invariant-loop-command
invariant-loop-command l = record {
  place : l.at ≡ l.command-index * l.size;
  so_far : AreCommands l.version (take l.at l.bytes) (take l.command-index l.commands);
}
