use Rattle.std.proofs.Common.{◌≡◌, ◌+◌, length}
use Rattle.later_demos.specs.Command.{commands_in, left_in}
use Rattle.later_demos.proofs.command.scan.Given as goal

abbrev pub invariant-commands : goal.invariant-commands
invariant-commands l = record {
  counted : l.count + length (commands_in l.form l.left) ≡ length (commands_in l.form l.bytes);
  kept : left_in l.form l.left ≡ left_in l.form l.bytes;
}

abbrev pub decreases-commands : goal.decreases-commands
decreases-commands l = length l.left
