use Rattle.std.proofs.Common.{◌≡◌, ℕ, ◌<◌, length-take, length-drop, ◌+◌, ◌*◌, ◌-◌, ◌≤◌, take, drop, length, arith, ap, sym, ◌∙◌, Some}
use Rattle.std.proofs.Math.Nat.{mul-le-mul_right}
use Rattle.std.proofs.lemmas.Slice.{first_rest}
use Rattle.std.proofs.lemmas.Option.{slice_get_past}
use Rattle.demo_lump.specs.Command.{command_size, command_of}
use Rattle.demo_lump.specs.Scanning.{commands_of}
use Rattle.demo_lump.proofs.CommandLemmas.{length-commands_of, slice_get-commands_of}
use Rattle.demo_lump.proofs.demo.Demo.command.Goals as goal

pub returns-then-index-self : goal.returns-then-index-self
returns-then-index-self c =
    let past : length
    (commands_of c.self.inside.header.version c.self.inside.count c.self.inside.commands.now)
    ≤ c.args.index =
    rw length-commands_of c.if-index-self.true in
    rw (← c.self.view_is) (sym (slice_get_past _ _ past))

pub returns : goal.returns
returns c =
    let size = c.size_of_command-size.result in
    let start = c.args.index * size in
    let part = take (start + size - start) (drop start c.self.inside.commands.now) in
    let whole : start + size - start ≡ size = omega arith in
    let room : (c.args.index + 1) * size ≤ c.self.inside.count * size =
    mul-le-mul_right size (omega arith) in
    let fits : c.self.inside.count * size ≤ length c.self.inside.commands.now =
    rw c.size_of_command-size.ensures.size c.self.invariant.1 in
    let some : 0 < length part =
    omega (
      arith,
      length-take {A = ℕ},
      length-drop {A = ℕ},
      room,
      fits,
      c.size_of_command-size.ensures.least,
    ) in
    let is : part
    ≡ take (command_size c.self.inside.header.version) (drop
    (c.args.index * command_size c.self.inside.header.version) c.self.inside.commands.now) =
    ap (λ n. take n (drop start c.self.inside.commands.now)) whole
    ∙ ap (λ n. take n (drop (c.args.index * n) c.self.inside.commands.now))
    c.size_of_command-size.ensures.size in
    rw (
      ← c.self.view_is,
      slice_get-commands_of _ _ _ _ c.if-index-self.false,
      c.command_from.ensures,
    )
    (ap (λ t. Some (command_of c.self.inside.header.version t)) (sym (first_rest part 0 some) ∙ is))
