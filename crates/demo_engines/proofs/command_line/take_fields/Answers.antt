use Rattle.std.proofs.Common.{◌≡◌, ◌<◌, ◌++◌, ◌∷◌, [], ap, sym, ◌∙◌, subst, w8, to_z, of_z}
use Rattle.std.proofs.lemmas.Int.{to_z-of_z}
use Rattle.demo_engines.proofs.ListingLemmas.{printed_fields}
use Rattle.demo_listings.specs.CommandText.{ticcmd_text}
use Rattle.demo_engines.specs.Parts.{command_fields}
use Rattle.demo_lump.specs.declared.command.Command.{Command}
use Rattle.demo_engines.proofs.command_line.take_fields.Goals as goal

pub returns-in-None-clause-none : goal.returns-in-None-clause-none
returns-in-None-clause-none c command rest fits same =
    let guessed = c.guess_command-command.ensures c.args.version command (10 ∷ rest) fits same in
    let line : c.as_bytes.result.now ≡ ticcmd_text c.guess_command-command.result ++ 10 ∷ [] = c.as_bytes.ensures ∙ c.prepend_ticcmd.ensures.text
    ∙ ap (λ t. ticcmd_text c.guess_command-command.result ++ t) (c.prepend_bytes.ensures.text ∙ ap (λ t. 10 ∷ t) c.new-line.ensures) in
    c.in-None.ensures.none rest (same ∙ ap (λ (x : Command). command_fields x (10 ∷ rest)) (sym guessed) ∙ sym (printed_fields c.guess_command-command.result rest) ∙ ap (λ t. t ++ rest) (sym line))

pub returns-then-command-clause-none : goal.returns-then-command-clause-none
returns-then-command-clause-none c command rest fits same =
    let guessed = c.guess_command-command.ensures c.args.version command (10 ∷ rest) fits same in
    let marker : of_z w8 command.forward ≡ 128 = ap (λ (x : Command). of_z w8 x.forward) (sym guessed) ∙ c.if-command.true in
    fits.unmarked (sym (to_z-of_z w8 command.forward fits.forward) ∙ ap (to_z w8) marker)

pub returns-then-not-has_turn-clause-none : goal.returns-then-not-has_turn-clause-none
returns-then-not-has_turn-clause-none c command rest fits same =
    let guessed = c.guess_command-command.ensures c.args.version command (10 ∷ rest) fits same in
    let yes = c.if-not-has_turn.ensures.1 (λ other. subst (λ (x : Command). x.turn < 256) (sym guessed) (fits.small other)) in
    let f : ⊥ = cc in f
