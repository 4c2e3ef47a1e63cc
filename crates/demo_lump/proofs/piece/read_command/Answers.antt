use Rattle.std.proofs.Common.{◌≡◌, ◌+◌, ℕ, Some, arith, length, length-take, refl, sym}
use Rattle.std.proofs.lemmas.Result.{err_from_is_err_and}
use Rattle.demo_lump.specs.Command.{command_size}
use Rattle.demo_lump.specs.NextPiece.{next_piece}
use Rattle.demo_lump.proofs.ReadsLemmas.{Reads-byte, Reads-empty, Reads-no_byte, Reads-no_rest, Reads-short, Reads-whole, next_goes_on, next_has_byte, no_next, short_next}
use Rattle.demo_lump.proofs.piece.read_command.Goals as goal

pub returns-in_err-first-clause-reads : goal.returns-in_err-first-clause-reads
returns-in_err-first-clause-reads g c =
    let p = err_from_is_err_and c.from_residual.result c.from_residual.ensures.1 in
    rw (p.1, p.2)
    (Reads-no_byte (next_piece c.args.version c.args.intake.now.taken)
    (next_has_byte c.args.version c.args.intake.now.taken) _ c.requires.within
    c.in_err-first.ensures.takes)

pub returns-in_default-clause-reads : goal.returns-in_default-clause-reads
returns-in_default-clause-reads g c =
    let byte = rw c.in_default.is at c.in_ok-first.ensures.takes in
    Reads-empty (next_piece c.args.version c.args.intake.now.taken)
    (next_has_byte c.args.version c.args.intake.now.taken) _
    (no_next c.args.version c.args.intake.now.taken) byte

pub returns-then-first-clause-reads : goal.returns-then-first-clause-reads
returns-then-first-clause-reads g c =
    let byte = rw c.in-Some.is at c.in_ok-first.ensures.takes in
    let marked = rw c.if-first.true at byte in
    Reads-byte (next_piece c.args.version c.args.intake.now.taken)
    (next_has_byte c.args.version c.args.intake.now.taken) 128 _ refl marked

pub returns-in_err-fill-clause-reads : goal.returns-in_err-fill-clause-reads
returns-in_err-fill-clause-reads g c =
    let version = c.args.version in
    let taken = c.args.intake.now.taken in
    let p =
    err_from_is_err_and c.from_residual-in_err-fill.result
    c.from_residual-in_err-fill.ensures.1 in
    let byte = rw c.in-Some.is at c.in_ok-first.ensures.takes in
    let fill = rw c.byte.ensures.limit at c.in_err-fill.ensures.takes in
    rw (
      p.1,
      p.2,
    ) (Reads-no_rest (next_piece version taken) (next_has_byte version taken) _ c.in-Some.first
    (next_goes_on version taken _ c.in-Some.first
    (omega (
      arith,
      length-take {A = ℕ},
      c.size_of_command.ensures.size,
      c.size_of_command.ensures.least,
    )) c.if-first.false)
    byte _ _ fill)

pub returns-then-not-branch-clause-reads : goal.returns-then-not-branch-clause-reads
returns-then-not-branch-clause-reads g c =
    let version = c.args.version in
    let taken = c.args.intake.now.taken in
    let byte = rw c.in-Some.is at c.in_ok-first.ensures.takes in
    let fill = rw (c.byte.ensures.limit, c.if-not-branch.true) at c.in_ok-fill.ensures.takes in
    Reads-short (next_piece version taken) (next_has_byte version taken) _ c.in-Some.first
    (next_goes_on version taken _ c.in-Some.first
    (omega (
      arith,
      length-take {A = ℕ},
      c.size_of_command.ensures.size,
      c.size_of_command.ensures.least,
    )) c.if-first.false) byte
    _ _ c.fill.auto.buf
    (λ more few.
    short_next version taken _ c.in-Some.first more
    (omega (
      arith,
      length-take {A = ℕ},
      c.size_of_command.ensures.size,
      c.size_of_command.ensures.least,
    ))
    c.if-first.false few) fill

pub returns-clause-reads : goal.returns-clause-reads
returns-clause-reads g c =
    let version = c.args.version in
    let taken = c.args.intake.now.taken in
    let byte = rw c.in-Some.is at c.in_ok-first.ensures.takes in
    let fill = rw (c.byte.ensures.limit, c.if-not-branch.false) at c.in_ok-fill.ensures.takes in
    let long : length c.fill.new.buf + 1 ≡ command_size version =
    omega (
      arith,
      length-take {A = ℕ},
      c.fill.auto.buf,
      c.size_of_command.ensures.size,
      c.size_of_command.ensures.least,
      c.size_of_command.ensures.most,
    ) in
    Reads-whole (next_piece version taken) (next_has_byte version taken) _ c.in-Some.first
    (next_goes_on version taken _ c.in-Some.first
    (omega (
      arith,
      length-take {A = ℕ},
      c.size_of_command.ensures.size,
      c.size_of_command.ensures.least,
    )) c.if-first.false) byte
    _ (Some c.command_from.result)
    (record {
      long = omega (arith, long);
      unmarked = c.if-first.false;
      reads = sym c.command_from.ensures;
    }) fill
