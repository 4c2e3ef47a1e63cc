use Rattle.std.proofs.Common.{◌≡◌, ◌+◌, ◌-◌, ◌*◌, ◌≤◌, ◌++◌, List, ℕ, ap, arith, length, subst, sym, take, ◌∙◌}
use Rattle.std.proofs.Math.Nat.{mul-le-mul_right}
use Rattle.std.proofs.lemmas.List.{take_all, take_more}
use Rattle.demo_lump.specs.Demo.{AreCommands}
use Rattle.demo_lump.proofs.CommandLemmas.{AreCommands-last}
use Rattle.demo_lump.proofs.FillingLemmas.{filled_more}
use Rattle.demo_lump.proofs.write.put_commands.Goals as goal

pub loop-command-preserved : goal.loop-command-preserved
loop-command-preserved c =
    let i = c.loop-command.invariant in
    let at = c.loop-command.at in
    let n = c.loop-command.command-index in
    let size = c.size_of_command-size.result in
    let part = c.put_command.new.bytes in
    let commands = c.args.commands.now in
    let long : length part ≡ size =
    c.put_command.ensures.long ∙ sym c.size_of_command-size.ensures.size in
    let next : (n + 1) * size ≤ length commands * size =
    mul-le-mul_right size (omega (arith, c.loop-command-test.true)) in
    let room : length c.loop-command.bytes ≡ length commands * size =
    c.loop-command.auto.bytes ∙ rw c.size_of_command-size.ensures.size c.requires.room in
    let more =
    filled_more at size (at + size - at) c.loop-command.bytes part
    (omega (arith, i.place, next, room)) (omega (arith, long)) in
    let front =
    more
    ∙ ap (λ (t : List ℕ). take at c.loop-command.bytes ++ t)
    (take_all size part (omega (arith, long))) in
    record {
      place = omega (arith, i.place);
      so_far =
          subst (λ (xs : List ℕ). AreCommands c.args.version xs (take (n + 1) commands)) (sym front)
          (subst (AreCommands c.args.version (take at c.loop-command.bytes ++ part)) (sym
          (take_more commands n _ c.loop-command-test.true)) (AreCommands-last c.args.version
          (take at c.loop-command.bytes) part (take n commands) _ i.so_far c.put_command.ensures));
    }
