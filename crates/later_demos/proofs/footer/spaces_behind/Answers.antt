use Rattle.std.proofs.Common.{◌∙◌, ◌==◌, ℕ, ap, length, reverse, not, rules, sym, tests}
use Rattle.std.proofs.lemmas.Iterator.Adapters.{YieldsList-from_rev_slice}
use Rattle.std.proofs.lemmas.Iterator.Search.{position_from_yields_List}
use Rattle.std.proofs.lemmas.List.{length-reverse}
use Rattle.std.proofs.lemmas.List.Sums.{prefix_len-le-length}
use Rattle.std.specs.List.{position}
use Rattle.std.specs.Option.{unwrap_or}
use Rattle.le_rec.proofs.NameLemmas.{found_or}
use Rattle.later_demos.proofs.footer.spaces_behind.Goals as goal

pub returns-clause-spaces : goal.returns-clause-spaces
returns-clause-spaces c =
    let text = c.args.text.now in
    let found =
    position_from_yields_List (λ b. not (b == 32)) _ _ c.position.result c.position.ensures.ran
    (YieldsList-from_rev_slice text (search rules)) (λ x b q k. search (rules, tests)) in
    c.unwrap_or.ensures
    ∙ ap (λ place. unwrap_or place (length text)) found
    ∙ ap (λ (n : ℕ). unwrap_or (position (λ b. not (b == 32)) (reverse text)) n) (sym (length-reverse text))
    ∙ found_or _ (length (reverse text)) (prefix_len-le-length (λ b. not (not (b == 32))) (reverse text))
