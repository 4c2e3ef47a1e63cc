use Rattle.std.proofs.Common.{◌≡◌, suc, ◌<◌, ◌-◌, ◌∷◌, ◌++◌, length, Some, sym, ap, ◌∙◌, rules, w32, FitsSigned, arith}
use Rattle.std.proofs.lemmas.List.{length-append}
use Rattle.std.specs.Fmt.{signed_decimal}
use Rattle.std.specs.List.{slice_get}
use Rattle.wad_dir.proofs.WinnerLemmas.{within_some}
use Rattle.look_engines.proofs.engines.BlocksLemmas.{word-short, words-before}
use Rattle.look_engines.proofs.engines.blocks.prepend_numbers.Goals as goal

pub loop-i-preserved : goal.loop-i-preserved
loop-i-preserved c =
    let i = c.loop-i.i in
    let word = c.in-Some.word in
    let fits : FitsSigned w32 word = search rules in
    let at : slice_get c.args.lines.now (i - 1) ≡ Some word = sym c.get.ensures ∙ c.in-Some.is in
    let put : c.prepend_bytes.new.self ≡ 32 ∷ (signed_decimal word ++ c.loop-i.line) = search rules in
    let long = ap length put ∙ ap suc (length-append (signed_decimal word) c.loop-i.line) in
    let short = word-short word fits in
    let above : c.args.from < i = omega (arith, c.loop-i-test.true) in
    record {
      text = put ∙ ap (λ t. 32 ∷ (signed_decimal word ++ t)) c.loop-i.invariant.text
          ∙ sym (words-before c.args.lines.now i c.args.to word c.args.line.now (omega arith) c.loop-i.invariant.within at);
      room = omega (arith, c.loop-i.invariant.room, long, short, above);
      above = omega (arith, above);
      within = omega (arith, c.loop-i.invariant.within);
    }

pub returns-in_default : goal.returns-in_default
returns-in_default c =
    let below : c.loop-i.i - 1 < length c.args.lines.now = omega (arith, c.loop-i-test.true, c.loop-i.invariant.within, c.requires.within) in
    absurd (within_some c.args.lines.now (c.loop-i.i - 1) c.get.result below c.get.ensures c.in_default.is)
