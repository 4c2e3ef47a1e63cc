use Rattle.std.proofs.Common.{◌≡◌, take, drop, ◌∙◌, rules}
use Rattle.std.proofs.lemmas.List.{take-append-drop}
use Rattle.demo_engines.proofs.RunLemmas.{same_run}
use Rattle.line_io.specs.Numbers.{IsDigit}
use Rattle.demo_engines.proofs.numbers.skip_label.Goals as goal

pub returns : goal.returns
returns c label more others stops same =
    let count = c.count_others.result in
    let text = c.args.text.now in
    let back : c.split_at.result.1.now ≡ drop count text = search rules in
    back ∙ (same_run (λ byte. ¬ IsDigit byte) (take count text) label (drop count text) more c.count_others.ensures.others others c.count_others.ensures.stops stops
    (take-append-drop count text ∙ same)).1
