use Rattle.std.proofs.Common.{IsTrue, slice_index, true≢false, ◌+◌, length, inl, inr, sym, ◌∙◌, arith, drop, rules, subst}
use Rattle.demo_lump.specs.Scanning.{Follows}
use Rattle.std.proofs.lemmas.Bool.{cases_eq, cases_lt}
use Rattle.std.proofs.lemmas.List.{take_rest}
use Rattle.demo_lump.proofs.CommandLemmas.{Follows-none, Follows-more, Scans-of, room_for_one}
use Rattle.demo_lump.proofs.demo.scan.Goals as goal

pub commands-init : goal.commands-init
commands-init c = Follows-none _ _

pub overflow_add-count : goal.overflow_add-count
overflow_add-count c =
    let room = room_for_one _ _ _ _ c.commands.invariant in
    omega (arith, room)

pub commands-preserved : goal.commands-preserved
commands-preserved c =
    let begins : IsTrue c.begins_command.result = search rules in
    let is = c.begins_command.ensures.0 begins in
    let more =
    Follows-more _ _ _ _ c.commands.invariant
    (omega (arith, is.0, c.size_of_command-size.ensures.size)) is.1 in
    rw take_rest (subst (λ n. Follows c.args.version c.args.bytes.now (c.commands.count + 1)
    (drop n c.commands.rest.now)) (sym c.size_of_command-size.ensures.size) more)

pub returns : goal.returns
returns c =
    let scanned = Scans-of _ _ _ _ c.commands.invariant in
    elim (cases_lt (length c.commands.rest.now) c.size_of_command-size.result) [
      | inl short ↦ scanned (inl (omega (arith, short, c.size_of_command-size.ensures.size)))
      | inr fits ↦ elim (cases_eq (slice_index c.commands.rest.now 0) 128) [
        | inl marked ↦ scanned (inr marked)
        | inr unmarked ↦
            let begins = c.begins_command.ensures.1 (fits, unmarked) in
            absurd (true≢false (sym begins ∙ c.commands-test.false))
      ]
    ]
