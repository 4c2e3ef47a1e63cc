use Rattle.std.proofs.Common.{ℕ, ◌+◌, ap, ◌∙◌, sym, subst}
use Rattle.look_engines.specs.Turn.{PlayerTurn}
use Rattle.demo_listings.proofs.CommandLemmas.{SoSame-more, stops_at_both_ends, stops_at_commands, stops_at_end_of_a, stops_at_end_of_b}
use Rattle.demo_listings.proofs.MeaningLemmas.{meanings_differ, meanings_same}
use Rattle.demo_listings.specs.Differences.{StopsAt}
use Rattle.demo_listings.specs.declared.compare.Stop.TheVariants.{Same, Differ, EndOfA, EndOfB}
use Rattle.demo_listings.proofs.compare.first_stop.Goals as goal

pub returns-then-ne-clause-stops : goal.returns-then-ne-clause-stops
returns-then-ne-clause-stops c =
    let i = c.commands.invariant in
    let stops = stops_at_commands c.args.what c.args.a.now c.args.b.now c.commands._index c.commands.left_of_a c.commands.left_of_b i.same c.in-Some-Some.x c.in-Some-Some.y c.next.new.self c.next-in-commands.new.self c.in-Some-Some.ensures.steps c.in-Some-Some.ensures'.steps
    (rw (c.meaning_of.ensures, c.meaning_of-in-Some-Some.ensures) at (meanings_differ c.meaning_of.result c.meaning_of-in-Some-Some.result c.if-ne.ensures)) in
    subst (λ (n : ℕ). StopsAt c.args.what c.args.a.now c.args.b.now n (Differ c.in-Some-Some.x c.in-Some-Some.y)) (sym (ap (λ (t : PlayerTurn). t.index) i.turn)) stops

pub returns-in-Some-None-clause-stops : goal.returns-in-Some-None-clause-stops
returns-in-Some-None-clause-stops c =
    let i = c.commands.invariant in
    let stops = stops_at_end_of_b c.args.what c.args.a.now c.args.b.now c.commands._index c.commands.left_of_a c.commands.left_of_b i.same c.in-Some-None.field-0-0 c.next.new.self c.in-Some-None.ensures.steps c.in-Some-None.ensures'.steps.0 in
    subst (λ (n : ℕ). StopsAt c.args.what c.args.a.now c.args.b.now n EndOfB) (sym (ap (λ (t : PlayerTurn). t.index) i.turn)) stops

pub returns-in-None-Some-clause-stops : goal.returns-in-None-Some-clause-stops
returns-in-None-Some-clause-stops c =
    let i = c.commands.invariant in
    let stops = stops_at_end_of_a c.args.what c.args.a.now c.args.b.now c.commands._index c.commands.left_of_a c.commands.left_of_b i.same c.in-None-Some.field-0-1 c.next-in-commands.new.self (rw c.in-None-Some.is-0 at c.next.ensures.steps).0 c.in-None-Some.ensures.steps in
    subst (λ (n : ℕ). StopsAt c.args.what c.args.a.now c.args.b.now n EndOfA) (sym (ap (λ (t : PlayerTurn). t.index) i.turn)) stops

pub returns-in-None-None-clause-stops : goal.returns-in-None-None-clause-stops
returns-in-None-None-clause-stops c =
    let i = c.commands.invariant in
    let stops = stops_at_both_ends c.args.what c.args.a.now c.args.b.now c.commands._index c.commands.left_of_a c.commands.left_of_b i.same (rw c.in-None-None.is-0 at c.next.ensures.steps).0 c.in-None-None.ensures.steps.0 in
    subst (λ (n : ℕ). StopsAt c.args.what c.args.a.now c.args.b.now n Same) (sym (ap (λ (t : PlayerTurn). t.index) i.turn)) stops

pub commands-preserved : goal.commands-preserved
commands-preserved c =
    let i = c.commands.invariant in
    record {
      turn = c.step.ensures ∙ ap (λ (t : PlayerTurn). record t { index = t.index + 1 }) i.turn;
      same =
          SoSame-more c.args.what c.args.a.now c.args.b.now c.commands._index c.commands.left_of_a c.commands.left_of_b i.same c.in-Some-Some.x c.in-Some-Some.y c.next.new.self c.next-in-commands.new.self c.in-Some-Some.ensures.steps c.in-Some-Some.ensures'.steps
          (rw (c.meaning_of.ensures, c.meaning_of-in-Some-Some.ensures) at (meanings_same c.meaning_of.result c.meaning_of-in-Some-Some.result c.if-ne.ensures));
    }
