use Rattle.std.proofs.Common.{arith}
use Rattle.map_cells.proofs.SeenLemmas.{bound-pushed, known-pushed, pushed, seen-pushed}
use Rattle.map_cells.proofs.seen.Seen.push.Goals as goal

pub invariant_of-self : goal.invariant_of-self
invariant_of-self g c = rw c.in_err-push.ensures.items c.self.invariant

pub invariant_of-self-2 : goal.invariant_of-self-2
invariant_of-self-2 g c =
    let numbers = c.self.inside.numbers in
    let code = c.code_of-code.result in
    let few = c.code_of-code.ensures.few in
    let is = pushed numbers.items c.push.new.self.items code c.in_ok-push.ensures.items in
    let most = c.max-self-inside.ensures in
    let bound = c.self.invariant.2 in
    rw is (
      known-pushed numbers.items code 0 few c.self.invariant.0,
      bound-pushed numbers.items code 0 c.self.inside.bound c.max-self-inside.result few c.self.invariant.1
          (omega (arith, most)) (omega (arith, most)),
      omega (arith, most, bound, few),
    )

pub returns : goal.returns
returns g c =
    let numbers = c.self.inside.numbers in
    let is = pushed numbers.items c.push.new.self.items c.code_of-code.result c.in_ok-push.ensures.items in
    seen-pushed c.args.self.now numbers.items _ 1 c.code_of-code.result c.args.shown c.self.view_is (omega arith)
    c.code_of-code.ensures.few c.code_of-code.ensures.is is
