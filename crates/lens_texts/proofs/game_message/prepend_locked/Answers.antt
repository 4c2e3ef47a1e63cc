use Rattle.std.proofs.Common.{◌++◌, ap, ◌∙◌}
use Rattle.std.specs.Prelude.{codes}
use Rattle.std.specs.Fmt.{decimal}
use Rattle.lens_texts.specs.GameMessage.{key_text}
use Rattle.lens_texts.proofs.game_message.prepend_locked.Goals as goal

pub returns : goal.returns
returns c =
    c.prepend_count.ensures.text ∙ ap (λ t. decimal c.args.linedefs ++ t)
    (c.prepend_key.ensures.text ∙ ap (key_text c.args.key) (c.prepend_bytes.ensures.text ∙ ap (λ t. codes ", which isn't there in " ++ t) c.prepend_skills.ensures.text))
