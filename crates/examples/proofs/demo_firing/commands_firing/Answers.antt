use Rattle.std.proofs.Common.{refl, ap, ◌∙◌, sym, arith}
use Rattle.std.proofs.lemmas.Result.{err_from_is_err_and}
use Rattle.demo_lump.specs.DemoReader.{DemoReader}
use Rattle.examples.proofs.FiringLemmas.{FiringSoFar-none, FiringSoFar-more, next_reads, at_marker, stops_at}
use Rattle.examples.proofs.demo_firing.commands_firing.Goals as goal

pub commands-init : goal.commands-init
commands-init g c =
    let fresh = c.new-reader.ensures in
    let r = c.in_ok-header.ensures.first (ap (λ (x : DemoReader). x.fault) fresh) (ap (λ (x : DemoReader). x.header) fresh) in
    record { sound = r.reads.sound; so_far = FiringSoFar-none fresh _ r }

pub returns-in_err-command : goal.returns-in_err-command
returns-in_err-command g c =
    let p = err_from_is_err_and c.from_residual-in_err-command.result c.from_residual-in_err-command.ensures.1 in
    let f = c.commands.invariant.so_far in
    rw (p.1, p.2) (stops_at f c.commands_go_on.ensures.stopped _ (next_reads f c.in_err-command.ensures.known))

pub commands-preserved-then-is_firing : goal.commands-preserved-then-is_firing
commands-preserved-then-is_firing g c =
    let f = c.commands.invariant.so_far in
    let r = next_reads f (rw c.in-Some.is at c.in_ok-command.ensures.known) in
    let held = sym c.is_firing.ensures ∙ c.if-is_firing.true in
    record {
      sound = r.reads.sound;
      so_far = FiringSoFar-more f c.commands_go_on.ensures.sizes c.commands_go_on.ensures.more _ r _ (rw held refl);
    }

pub commands-preserved : goal.commands-preserved
commands-preserved g c =
    let f = c.commands.invariant.so_far in
    let r = next_reads f (rw c.in-Some.is at c.in_ok-command.ensures.known) in
    let held = sym c.is_firing.ensures ∙ c.if-is_firing.false in
    record {
      sound = r.reads.sound;
      so_far = FiringSoFar-more f c.commands_go_on.ensures.sizes c.commands_go_on.ensures.more _ r _ (rw held omega arith);
    }

pub returns : goal.returns
returns g c =
    let f = c.commands.invariant.so_far in
    at_marker f (next_reads f (rw c.in_default.is at c.in_ok-command.ensures.known))
