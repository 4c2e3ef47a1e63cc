use Rattle.std.proofs.Common.{◌≡◌, ◌-◌, length, arith, rules}
use Rattle.std.specs.Vec.{vec_len}
use Rattle.map_cells.proofs.SeenLemmas.{bound-pushed, grouped, known-pushed, seen-pushed}
use Rattle.map_cells.proofs.seen.Seen.push_group.Goals as goal

pub invariant_of-self : goal.invariant_of-self
invariant_of-self g c = rw c.in_err-resize.ensures.items c.self.invariant

pub invariant_of-self-2 : goal.invariant_of-self-2
invariant_of-self-2 g c =
    let numbers = c.self.inside.numbers in
    let code = c.code_of-code.result in
    let few = c.code_of-code.ensures.few in
    let long : vec_len numbers ≡ length numbers.items = search rules in
    let is = grouped numbers.items c.resize.new.self.items c.len-first.result (vec_len numbers) c.args.count code
    c.len-first.ensures long c.requires.some c.in_ok-resize.ensures.items in
    let most = c.max-self-inside.ensures in
    let bound = c.self.invariant.2 in
    rw is (
      known-pushed numbers.items code (c.args.count - 1) few c.self.invariant.0,
      bound-pushed numbers.items code (c.args.count - 1) c.self.inside.bound c.max-self-inside.result few c.self.invariant.1
          (omega (arith, most)) (omega (arith, most)),
      omega (arith, most, bound, few),
    )

pub returns : goal.returns
returns g c =
    let numbers = c.self.inside.numbers in
    let long : vec_len numbers ≡ length numbers.items = search rules in
    let some = c.requires.some in
    let is = grouped numbers.items c.resize.new.self.items c.len-first.result (vec_len numbers) c.args.count c.code_of-code.result
    c.len-first.ensures long some c.in_ok-resize.ensures.items in
    seen-pushed c.args.self.now numbers.items _ c.args.count c.code_of-code.result c.args.shown c.self.view_is some
    c.code_of-code.ensures.few c.code_of-code.ensures.is is
