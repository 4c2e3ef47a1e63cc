use Rattle.std.proofs.Common.{◌≡◌, ◌+◌, ◌/◌, ◌<◌, ◌^◌, length, ap, sym, ◌∙◌, arith, rules}
use Rattle.std.proofs.lemmas.List.{length-map}
use Rattle.std.specs.Vec.{vec_len}
use Rattle.map_cells.specs.Seen.{shown_in}
use Rattle.map_cells.proofs.SeenLemmas.{seen-known}
use Rattle.map_cells.proofs.seen.Seen.known_end.Goals as goal

pub overflow_add-result : goal.overflow_add-result
overflow_add-result g c =
    let numbers = c.self.inside.numbers in
    let few : vec_len numbers < 2 ^ 64 = search rules in
    let whole : vec_len numbers ≡ length numbers.items = search rules in
    let last = (seen-known c.args.self.now numbers.items c.args.place c.index.result.now (c.args.place + c.index.result.now / 131072) c.self.view_is
    c.self.invariant.0 c.requires c.index.ensures (omega arith) (omega arith)).0 in
    let long : length numbers.items ≡ length c.args.self.now = sym (length-map numbers.items shown_in) ∙ ap length c.self.view_is in
    omega (arith, few, whole, last, long)

pub returns-clause-few : goal.returns-clause-few
returns-clause-few g c =
    let last = (seen-known c.args.self.now c.self.inside.numbers.items c.args.place c.index.result.now (c.args.place + c.index.result.now / 131072)
    c.self.view_is c.self.invariant.0 c.requires c.index.ensures (omega arith) (omega arith)).0 in
    omega (arith, last)

pub returns-clause-same : goal.returns-clause-same
returns-clause-same g c = λ k from below.
    (seen-known c.args.self.now c.self.inside.numbers.items c.args.place c.index.result.now k c.self.view_is c.self.invariant.0 c.requires
    c.index.ensures from below).1
