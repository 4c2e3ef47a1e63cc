use Rattle.std.proofs.Common.{refl, ℕ, ◌+◌, ◌≤◌, List, [], ◌++◌, length, Err, ap, ◌∙◌, arith, length-append}
use Rattle.std.proofs.KnownBytes.{Consumes-kept, Consumes-trans}
use Rattle.std.proofs.lemmas.List.{append-nil}
use Rattle.std.proofs.lemmas.Result.{err_from_is_err_and}
use Rattle.std.specs.Io.KnownBytes.{Consumes}
use Rattle.le_rec.specs.Source.{SourceState}
use Rattle.line_io.specs.declared.fault.IoFault.{IoFault}
use Rattle.line_io.specs.ReadsAll.{ReadFault, ReadsAll}
use Rattle.line_io.proofs.InputLemmas.{nil_from_empty, one_past, some_from_empty}
use Rattle.line_io.proofs.input.read_again.Goals as goal

-- reading stops behind the block `more`
stops : {A : Type 0} (before between after : SourceState) (limit : ℕ) (items more : List ℕ)
    (e : IoFault)
    → Consumes before.left between.left items → Consumes between.left after.left more
    → length items + length more ≤ limit + 1 → ReadFault limit after (items ++ more) e
    → ReadsAll {A = A} limit before after (Err e)
stops before between after limit items more e had gave room fault = record {
  read = items ++ more;
  given = Consumes-trans before.left between.left after.left items more had gave;
  bounded = omega (arith, length-append items more);
  whole = tt;
  within = tt;
  all_read = tt;
  sound = tt;
  fault = fault;
}

pub returns-in_err-more : goal.returns-in_err-more
returns-in_err-more g c =
    let p = err_from_is_err_and c.from_residual.result c.from_residual.ensures.1 in
    let e = c.in_err-more.ensures.fault in
    let items = c.turns.bytes.items in
    let state = g.S.Source.state in
    rw (p.1, p.2, e.0) (record {
      read = items;
      given =
          Consumes-kept (state c.args.input.now).left (state c.turns.input).left
          (state c.next_block.new.input).left items c.turns.invariant.given
          c.in_err-more.ensures.stays;
      bounded = omega (arith, c.turns.bytes.ok.0);
      whole = tt;
      within = tt;
      all_read = tt;
      sound = tt;
      fault = (e.1, omega (arith, c.turns.bytes.ok.0));
    })

pub returns-then-is_empty : goal.returns-then-is_empty
returns-then-is_empty g c =
    let items = c.turns.bytes.items in
    let more = c.in_ok-more.ensures in
    let none = nil_from_empty c.in_ok-more.more.now c.if-is_empty.ensures in
    let short : length items ≤ c.args.limit = omega (arith, c.turns.bytes.ok.0) in
    let gave = rw none at more.given in
    let joined =
    Consumes-trans (g.S.Source.state c.args.input.now).left
    (g.S.Source.state c.turns.input).left
    (g.S.Source.state c.next_block.new.input).left items [] c.turns.invariant.given gave in
    record {
      read = items;
      given = rw append-nil at joined;
      bounded = omega arith;
      whole = refl;
      within = short;
      all_read = more.end none;
      sound = more.sound ∙ c.turns.invariant.sound;
      fault = tt;
    }

pub returns-then-len-more : goal.returns-then-len-more
returns-then-len-more g c =
    let items = c.turns.bytes.items in
    let more = c.in_ok-more.more.now in
    let room =
    one_past _ c.len.result c.args.limit _
    (length more) _ c.in_ok-more.ensures.bound c.min-room.ensures
    (omega (arith, c.len.ensures)) in
    stops (g.S.Source.state c.args.input.now) (g.S.Source.state c.turns.input)
    (g.S.Source.state c.next_block.new.input) c.args.limit items more _ c.turns.invariant.given
    c.in_ok-more.ensures.given
    (omega (arith, room, c.len.ensures, c.turns.bytes.ok.0)) (
      omega (arith, length-append items more, c.len-in-turns.ensures, c.turns.bytes.ok.0),
      c.in_ok-more.ensures.sound ∙ c.turns.invariant.sound,
    )

pub returns-in_err-append : goal.returns-in_err-append
returns-in_err-append g c =
    let p =
    err_from_is_err_and c.from_residual-in_err-append.result
    c.from_residual-in_err-append.ensures.1 in
    let items = c.turns.bytes.items in
    let more = c.in_ok-more.more.now in
    let filled = some_from_empty (length more) c.if-is_empty.ensures in
    rw (p.1, p.2, c.in_err-append.ensures.err)
    (stops (g.S.Source.state c.args.input.now) (g.S.Source.state c.turns.input)
    (g.S.Source.state c.next_block.new.input) c.args.limit items more _
    c.turns.invariant.given c.in_ok-more.ensures.given
    (omega (arith, c.len.ensures, c.len-in-turns.ensures, c.turns.bytes.ok.0)) (
      omega (arith, length-append items more),
      omega (arith, length-append items more, c.len-in-turns.ensures, c.turns.bytes.ok.0),
      c.in_ok-more.ensures.sound ∙ c.turns.invariant.sound,
    ))

pub turns-preserved : goal.turns-preserved
turns-preserved g c =
    let items = c.turns.bytes.items in
    let more = c.in_ok-more.more.now in
    let filled = some_from_empty (length more) c.if-is_empty.ensures in
    let kept = c.in_ok-append.ensures.ok in
    let long = ap length kept ∙ length-append items more in
    record {
      sound = c.in_ok-more.ensures.sound ∙ c.turns.invariant.sound;
      turns = omega (arith, long, c.append.new.bytes.ok.0, c.turns.bytes.ok.0);
      within =
          omega (arith, long, c.append.new.bytes.ok.0, c.len-in-turns.ensures, c.turns.bytes.ok.0);
      given =
          rw kept (Consumes-trans (g.S.Source.state c.args.input.now).left
          (g.S.Source.state c.turns.input).left (g.S.Source.state c.next_block.new.input).left items
          more c.turns.invariant.given c.in_ok-more.ensures.given);
    }
