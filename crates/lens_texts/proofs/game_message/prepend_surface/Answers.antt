use Rattle.std.proofs.Common.{◌++◌, ap, ◌∙◌}
use Rattle.std.specs.Prelude.{codes}
use Rattle.lens_texts.specs.Label.{named_text}
use Rattle.lens_texts.proofs.game_message.prepend_surface.Goals as goal

pub returns-in-Floor : goal.returns-in-Floor
returns-in-Floor c =
    rw c.in-Floor.is
    (c.prepend_bytes-in-Floor.ensures.text ∙ ap (λ t. codes "floor flat " ++ t)
    (c.prepend_named.ensures.text ∙ ap (named_text c.args.sector.now.floor_name) c.prepend_bytes.ensures.text))

pub returns-in-Ceiling : goal.returns-in-Ceiling
returns-in-Ceiling c =
    rw c.in-Ceiling.is
    (c.prepend_bytes-in-Ceiling.ensures.text ∙ ap (λ t. codes "ceiling flat " ++ t)
    (c.prepend_named-in-Ceiling.ensures.text ∙ ap (named_text c.args.sector.now.ceiling_name) c.prepend_bytes.ensures.text))
