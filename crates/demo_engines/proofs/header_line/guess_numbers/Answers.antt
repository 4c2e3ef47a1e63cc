use Rattle.std.proofs.Common.{◌∙◌, refl, length-set}
use Rattle.demo_engines.proofs.HeaderLineLemmas.{all_taken, guessed_more, header_fields, no_number, small_set}
use Rattle.demo_engines.proofs.header_line.guess_numbers.Goals as goal

pub loop-i-init : goal.loop-i-init
loop-i-init c = record {
  long = refl;
  small = no_number;
  is = λ h rest fits same. (refl, same ∙ header_fields h rest);
}

pub loop-i-preserved : goal.loop-i-preserved
loop-i-preserved c =
    let before = c.loop-i.invariant in
    record {
      long = length-set c.loop-i.numbers c.loop-i.i c.guess_number-number.result.0 ∙ before.long;
      small = small_set c.loop-i.numbers c.loop-i.i c.guess_number-number.result.0 c.guess_number-number.ensures.small before.small;
      is = guessed_more c.args.text.now c.loop-i.rest.now c.guess_number-number.result.1.now c.loop-i.numbers c.loop-i.i c.guess_number-number.result.0 c.loop-i-test.true before.long
          c.guess_number-number.ensures.is before.is;
    }

pub returns : goal.returns
returns c = record {
  is = λ h rest fits same. all_taken c.loop-i.numbers _ c.loop-i.i c.loop-i-test.false c.loop-i.invariant.long refl (c.loop-i.invariant.is h rest fits same).0;
  small = c.loop-i.invariant.small;
}
