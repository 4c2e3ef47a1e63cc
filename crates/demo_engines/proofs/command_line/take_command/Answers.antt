use Rattle.std.proofs.Common.{◌++◌, ◌∷◌, ap, sym, ◌∙◌, rules}
use Rattle.std.proofs.lemmas.List.{append_cancel_left}
use Rattle.demo_engines.proofs.ListingLemmas.{line_from_front, line_taken}
use Rattle.demo_engines.specs.Parts.{command_fields}
use Rattle.demo_engines.proofs.command_line.take_command.Goals as goal

pub returns-in_default-clause-none : goal.returns-in_default-clause-none
returns-in_default-clause-none c command rest fits same =
    let front = c.as_bytes.ensures ∙ c.tic_and_player-front.ensures in
    c.in_default.ensures.none (command_fields command (10 ∷ rest)) (same ∙ line_from_front _ _ command rest ∙ ap (λ t. t ++ command_fields command (10 ∷ rest)) (sym front))

pub returns-in-Some-take_fields-clause-some : goal.returns-in-Some-take_fields-clause-some
returns-in-Some-take_fields-clause-some c =
    let front = c.as_bytes.ensures ∙ c.tic_and_player-front.ensures in
    line_taken c.args.text.now c.as_bytes.result.now c.in-Some.behind.now c.in-Some-take_fields.rest.now _ _ c.in-Some-take_fields.command front c.in-Some.ensures.some (search rules)

pub returns-in-None-clause-none : goal.returns-in-None-clause-none
returns-in-None-clause-none c command rest fits same =
    let front = c.as_bytes.ensures ∙ c.tic_and_player-front.ensures in
    let behind = sym c.in-Some.ensures.some ∙ same ∙ line_from_front _ _ command rest ∙ ap (λ t. t ++ command_fields command (10 ∷ rest)) (sym front) in
    c.in-None.ensures.none command rest fits (append_cancel_left c.as_bytes.result.now c.in-Some.behind.now (command_fields command (10 ∷ rest)) behind)
