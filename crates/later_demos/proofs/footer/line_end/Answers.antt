use Rattle.std.proofs.Common.{◌∙◌, ◌==◌, ap, length, not, rules, tests}
use Rattle.std.proofs.lemmas.Iterator.{YieldsList-from_slice}
use Rattle.std.proofs.lemmas.Iterator.Search.{position_from_yields_List}
use Rattle.std.proofs.lemmas.List.Sums.{prefix_len-le-length}
use Rattle.std.specs.Option.{unwrap_or}
use Rattle.le_rec.proofs.NameLemmas.{found_or}
use Rattle.later_demos.proofs.footer.line_end.Goals as goal

pub returns-clause-end : goal.returns-clause-end
returns-clause-end c =
    let text = c.args.text.now in
    let found =
    position_from_yields_List (λ b. b == 10) _ _ c.position.result c.position.ensures.ran
    (YieldsList-from_slice text c.iter.ensures.rest) (λ x b q k. search (rules, tests)) in
    c.unwrap_or.ensures
    ∙ ap (λ place. unwrap_or place (length text)) found
    ∙ found_or _ (length text) (prefix_len-le-length (λ b. not (b == 10)) text)
