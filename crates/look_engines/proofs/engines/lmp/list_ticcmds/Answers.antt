use Rattle.std.proofs.Common.{◌+◌, arith, ap, ◌∙◌}
use Rattle.std.proofs.lemmas.Result.{err_from_is_err_and}
use Rattle.demo_lump.specs.DemoReader.{DemoReader}
use Rattle.look_engines.proofs.engines.LmpCommandsLemmas.{Listed-few, Listed-more, ends_marked, next_reads, state_more, stops_reading, stops_writing}
use Rattle.look_engines.specs.Turn.{PlayerTurn}
use Rattle.look_engines.proofs.engines.lmp.list_ticcmds.Goals as goal

pub unreachable-requires : goal.unreachable-requires
unreachable-requires g c =
    let few = Listed-few c.commands.invariant.listed in
    omega (arith, few, c.commands-test.false, c.commands.invariant.within)

pub returns-in_err-command : goal.returns-in_err-command
returns-in_err-command g c =
    let p = err_from_is_err_and c.from_residual.result c.from_residual.ensures.1 in
    let i = c.commands.invariant in
    let known = c.in_err-command.ensures.known in
    let r = next_reads c.args.reader.now c.commands.reader c.next.new.self i.state c.requires.going c.requires.begun c.requires.same known in
    let bound = ap (λ (r : DemoReader). r.limit) i.state ∙ c.requires.bound in
    rw (p.1, p.2) (stops_reading c.args.reader.now c.commands.reader c.next.new.self c.commands._turn i.listed bound i.within _ i.sink r)

pub returns-in_default : goal.returns-in_default
returns-in_default g c =
    let i = c.commands.invariant in
    let known = rw c.in_default.is at c.in_ok-command.ensures.known in
    let r = next_reads c.args.reader.now c.commands.reader c.next.new.self i.state c.requires.going c.requires.begun c.requires.same known in
    let bound = ap (λ (r : DemoReader). r.limit) i.state ∙ c.requires.bound in
    ends_marked c.args.reader.now c.commands.reader c.next.new.self c.commands._turn i.listed bound i.within _ i.sink i.state i.turn r

pub returns-in_err-emit : goal.returns-in_err-emit
returns-in_err-emit g c =
    let p = err_from_is_err_and c.from_residual-in_err-emit.result c.from_residual-in_err-emit.ensures.1 in
    let i = c.commands.invariant in
    let known = rw c.in-Some.is at c.in_ok-command.ensures.known in
    let r = next_reads c.args.reader.now c.commands.reader c.next.new.self i.state c.requires.going c.requires.begun c.requires.same known in
    let line = c.as_bytes.ensures ∙ c.prepend_ticcmd.ensures in
    let w = rw (line, c.tic.ensures, c.player.ensures, i.turn) at c.in_err-emit.ensures in
    rw (p.1, p.2) (stops_writing c.args.reader.now c.commands.reader c.next.new.self c.commands._turn i.listed (ap (λ (r : DemoReader). r.limit) i.state ∙ c.requires.bound) i.within _ r _ _ w)

pub commands-preserved : goal.commands-preserved
commands-preserved g c =
    let i = c.commands.invariant in
    let known = rw c.in-Some.is at c.in_ok-command.ensures.known in
    let r = next_reads c.args.reader.now c.commands.reader c.next.new.self i.state c.requires.going c.requires.begun c.requires.same known in
    let line = c.as_bytes.ensures ∙ c.prepend_ticcmd.ensures in
    let w = rw (line, c.tic.ensures, c.player.ensures, i.turn) at c.in_ok-emit.ensures in
    let bound = ap (λ (r : DemoReader). r.limit) i.state ∙ c.requires.bound in
    record {
      source = r.reads.sound;
      sink = w.ends.sound;
      state = state_more c.args.reader.now c.commands.reader c.next.new.self c.commands._turn i.listed bound i.within _ r i.state;
      within = omega (arith, r.reads.within, bound);
      turn = c.step.ensures ∙ ap (λ (t : PlayerTurn). record t { index = t.index + 1 }) i.turn;
      listed = Listed-more c.args.reader.now c.commands.reader c.next.new.self c.commands._turn i.listed bound i.within _ r _ w.takes.whole;
    }
