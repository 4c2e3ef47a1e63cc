use Rattle.std.proofs.Common.{◌++◌, ◌∷◌, ap, sym, ◌∙◌}
use Rattle.std.proofs.lemmas.List.{append_cancel_left}
use Rattle.std.specs.Fmt.{decimal}
use Rattle.demo_engines.proofs.ListingLemmas.{totals_from_front, totals_taken}
use Rattle.demo_engines.proofs.assembly.take_totals.Goals as goal

pub returns-in_default-clause-none : goal.returns-in_default-clause-none
returns-in_default-clause-none c after rest few same =
    let front = c.as_bytes.ensures ∙ c.totals_before_after-front.ensures in
    c.in_default.ensures.none (decimal after ++ 10 ∷ rest) (same ∙ totals_from_front _ _ after rest ∙ ap (λ t. t ++ (decimal after ++ 10 ∷ rest)) (sym front))

pub returns-in-Some-behind_last_number-clause-some : goal.returns-in-Some-behind_last_number-clause-some
returns-in-Some-behind_last_number-clause-some c =
    let front = c.as_bytes.ensures ∙ c.totals_before_after-front.ensures in
    let found = c.in-Some-behind_last_number.ensures.some in
    (found.0, found.1, totals_taken c.args.text.now c.as_bytes.result.now c.in-Some.behind.now c.in-Some-behind_last_number.rest.now _ _ found.0 front c.in-Some.ensures.some found.2)

pub returns-in-None-clause-none : goal.returns-in-None-clause-none
returns-in-None-clause-none c after rest few same =
    let front = c.as_bytes.ensures ∙ c.totals_before_after-front.ensures in
    let behind = sym c.in-Some.ensures.some ∙ same ∙ totals_from_front _ _ after rest ∙ ap (λ t. t ++ (decimal after ++ 10 ∷ rest)) (sym front) in
    c.in-None.ensures.none after rest few (append_cancel_left c.as_bytes.result.now c.in-Some.behind.now (decimal after ++ 10 ∷ rest) behind)
