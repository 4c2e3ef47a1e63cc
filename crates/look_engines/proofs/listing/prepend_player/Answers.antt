use Rattle.std.proofs.Common.{◌++◌, sym, ap, ◌∙◌, arith}
use Rattle.std.proofs.lemmas.Fmt.{decimal_digit}
use Rattle.look_engines.proofs.listing.prepend_player.Goals as goal

pub returns-then-player-lt10-clause-text : goal.returns-then-player-lt10-clause-text
returns-then-player-lt10-clause-text c =
    c.prepend_bytes.ensures.text ∙ ap (λ digits. digits ++ c.args.line.now) (sym (decimal_digit c.args.player (omega arith)))
