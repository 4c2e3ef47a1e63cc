use Rattle.std.proofs.Common.{ap, ◌∙◌, arith}
use Rattle.std.proofs.lemmas.Result.{err_from_is_err_and}
use Rattle.demo_lump.specs.DemoReader.{DemoReader}
use Rattle.look_engines.proofs.engines.LmpEndLemmas.{ends_header, ends_commands, ends_rest, ends_after}
use Rattle.look_engines.proofs.engines.lmp.list_demo.Goals as goal

pub returns-in_err-emit : goal.returns-in_err-emit
returns-in_err-emit g c front start begins begun fresh given =
    let p = err_from_is_err_and c.from_residual.result c.from_residual.ensures.1 in
    let w = rw (c.as_bytes.ensures ∙ c.prepend_header.ensures) at c.in_err-emit.ensures in
    rw (p.1, p.2) (ends_header c.args.header.now front start _ begins c.args.limit _ _ _ c.requires.input (omega (arith, begun, c.requires.room)) given w)

pub returns-in_err-turn : goal.returns-in_err-turn
returns-in_err-turn g c front start begins begun fresh given =
    let p = err_from_is_err_and c.from_residual-in_err-turn.result c.from_residual-in_err-turn.ensures.1 in
    let w = rw (c.as_bytes.ensures ∙ c.prepend_header.ensures) at c.in_ok-emit.ensures in
    rw (p.1, p.2) (ends_commands c.args.header.now front start _ begins begun given w.takes.whole _ c.in_err-turn.ensures)

pub returns-in_err-after : goal.returns-in_err-after
returns-in_err-after g c front start begins begun fresh given =
    let p = err_from_is_err_and c.from_residual-in_err-after.result c.from_residual-in_err-after.ensures.1 in
    let w = rw (c.as_bytes.ensures ∙ c.prepend_header.ensures) at c.in_ok-emit.ensures in
    let l = c.in_ok-turn.ensures in
    let r = c.in_err-after.ensures.first (ap (λ (x : DemoReader). x.fault) l.state ∙ c.requires.going) (ap (λ (x : DemoReader). x.counted) l.state ∙ fresh) in
    rw (p.1, p.2) (ends_rest c.args.header.now front start _ begins begun given w.takes.whole c.requires.bound l _ r)

pub returns : goal.returns
returns g c front start begins begun fresh given =
    let w = rw (c.as_bytes.ensures ∙ c.prepend_header.ensures) at c.in_ok-emit.ensures in
    let l = c.in_ok-turn.ensures in
    let r = c.in_ok-after.ensures.first (ap (λ (x : DemoReader). x.fault) l.state ∙ c.requires.going) (ap (λ (x : DemoReader). x.counted) l.state ∙ fresh) in
    let v = rw (c.as_bytes-2.ensures ∙ c.prepend_totals.ensures, c.tic.ensures, c.odd.ensures, l.turn, r.reads.found) at c.emit-2.ensures in
    rw c.ended.ensures (ends_after c.args.header.now front start _ begins begun given w.takes.whole c.requires.bound l _ r _ _ v)
