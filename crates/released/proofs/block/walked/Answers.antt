use Rattle.std.proofs.Common.{take, ap, sym, ◌∙◌}
use Rattle.std.specs.Option.{option_map}
use Rattle.released.proofs.ListLemmas.{walked_is}
use Rattle.released.proofs.block.walked.Goals as goal

pub returns-in_err-end : goal.returns-in_err-end
returns-in_err-end c =
    let words = c.args.words.now in
    ap (option_map (λ list. list.now)) c.from_residual.ensures
    ∙ sym (walked_is words
    ∙ ap (option_map (λ k. take k words)) (sym c.end_of.ensures ∙ c.in_err-end.was))

pub returns : goal.returns
returns c =
    let words = c.args.words.now in
    sym (walked_is words
    ∙ ap (option_map (λ k. take k words)) (sym c.end_of.ensures ∙ c.in_ok-end.was))
