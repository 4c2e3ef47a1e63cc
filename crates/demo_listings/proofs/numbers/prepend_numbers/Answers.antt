use Rattle.std.proofs.Common.{◌≡◌, ℕ, ◌+◌, ◌-◌, ◌<◌, List, ◌∷◌, ◌++◌, get_or, length, sym, ap, ◌∙◌, arith, rules}
use Rattle.std.specs.Fmt.{decimal}
use Rattle.demo_listings.proofs.TextLemmas.{numbers-drop}
use Rattle.demo_listings.proofs.numbers.prepend_numbers.Goals as goal

pub loop-i-preserved : goal.loop-i-preserved
loop-i-preserved c =
    let bytes = c.args.bytes.now in
    let i = c.loop-i.i - 1 in
    let next : c.loop-i.i ≡ i + 1 = omega (arith, c.loop-i-test.true) in
    let below : i < length bytes = search rules in
    let before = rw next at c.loop-i.invariant.text in
    record {
      text =
          c.prepend_bytes.ensures.text
          ∙ ap (λ (t : List ℕ). 32 ∷ t) (c.prepend_small.ensures.text ∙ ap (λ (t : List ℕ). decimal (get_or bytes i 0) ++ t) before)
          ∙ sym (numbers-drop bytes i c.args.line.now below);
      room = omega (arith, next, c.prepend_bytes.ensures.length, c.prepend_small.ensures.length, c.loop-i.invariant.room);
    }
