use Rattle.std.proofs.Common.{◌<◌, ◌^◌, rules, arith}
use Rattle.std.proofs.lemmas.Bool.Decides.{nat_tests}
use Rattle.std.specs.Prelude.{FitsSigned}
use Rattle.std.specs.Int.{w8}
use Rattle.std.proofs.lemmas.Int.{to_z-of_z}
use Rattle.demo_lump.specs.Command.{command_size}
use Rattle.demo_lump.proofs.WritingLemmas.{IsCommand-long, IsCommand-short}
use Rattle.demo_lump.proofs.write.put_command.Goals as goal

pub copy_from_slice-requires : goal.copy_from_slice-requires
unfolding command_size
copy_from_slice-requires c = rw c.if-version-eq-LONG.true at c.requires.room

pub copy_from_slice-requires-else-version-eq-LONG :
    goal.copy_from_slice-requires-else-version-eq-LONG
unfolding command_size
copy_from_slice-requires-else-version-eq-LONG c = grind (arith, nat_tests)

pub returns-then-version-eq-LONG : goal.returns-then-version-eq-LONG
returns-then-version-eq-LONG c =
    let forward : FitsSigned w8 c.args.command.forward = search rules in
    let side : FitsSigned w8 c.args.command.side = search rules in
    let turn : c.args.command.turn < 2 ^ 16 = search rules in
    let items =
    rw (
      c.cast_unsigned-forward.ensures,
      c.cast_unsigned-side.ensures,
    ) at c.copy_from_slice.ensures.after in
    let items = simp to_z-of_z at items in
    rw items (IsCommand-long c.args.version c.args.command c.if-version-eq-LONG.true forward side
    turn c.requires.writable)

pub returns-else-version-eq-LONG : goal.returns-else-version-eq-LONG
returns-else-version-eq-LONG c =
    let forward : FitsSigned w8 c.args.command.forward = search rules in
    let side : FitsSigned w8 c.args.command.side = search rules in
    let items =
    rw (
      c.cast_unsigned-forward.ensures,
      c.cast_unsigned-side.ensures,
    ) at c.copy_from_slice-else-version-eq-LONG.ensures.after in
    let items = simp to_z-of_z at items in
    rw items (IsCommand-short c.args.version c.args.command c.if-version-eq-LONG.false forward side
    c.requires.writable)
