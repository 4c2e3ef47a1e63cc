use Rattle.std.proofs.Common.{◌++◌, ap, ◌∙◌}
use Rattle.std.specs.Prelude.{codes}
use Rattle.lens_texts.specs.GameMessage.{kind_text}
use Rattle.lens_texts.proofs.game_message.prepend_ending.Goals as goal

pub returns : goal.returns
returns c =
    c.prepend_kind.ensures ∙ ap (kind_text c.args.level.now c.args.thing)
    (c.prepend_bytes.ensures.text ∙ ap (λ t. codes " ends the reading of things, " ++ t) c.prepend_counted.ensures.text)
