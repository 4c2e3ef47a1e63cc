use Rattle.std.proofs.Common.{◌++◌, ap, ◌∙◌}
use Rattle.std.specs.Prelude.{codes}
use Rattle.std.specs.Fmt.{decimal}
use Rattle.lens_texts.specs.GameMessage.{linedef_special_text}
use Rattle.lens_texts.specs.Label.{named_text}
use Rattle.lens_texts.proofs.game_message.prepend_game_message.Goals as goal

pub returns-in-ZeroTag : goal.returns-in-ZeroTag
returns-in-ZeroTag c =
    rw c.in-ZeroTag.is
    (c.prepend_special-in-ZeroTag.ensures ∙ ap (linedef_special_text c.args.level.now c.in-ZeroTag.linedef)
    (c.prepend_bytes-in-ZeroTag.ensures.text ∙ ap (λ t. codes " with tag 0, which " ++ t) c.prepend_counted.ensures.text))

pub returns-in-ManyPlatforms : goal.returns-in-ManyPlatforms
returns-in-ManyPlatforms c =
    rw c.in-ManyPlatforms.is
    (c.prepend_special-in-ManyPlatforms.ensures ∙ ap (linedef_special_text c.args.level.now c.in-ManyPlatforms.linedef)
    (c.prepend_bytes-in-ManyPlatforms.ensures.text ∙ ap (λ t. codes " starts " ++ t) c.prepend_counted-in-ManyPlatforms.ensures.text))

pub returns-in-LongSave : goal.returns-in-LongSave
returns-in-LongSave c =
    rw c.in-LongSave.is (c.prepend_natural.ensures.text ∙ ap (λ t. decimal c.in-LongSave.bytes ++ t) c.prepend_bytes-in-LongSave.ensures.text)

pub returns-in-LacksPatch : goal.returns-in-LacksPatch
returns-in-LacksPatch c =
    rw c.in-LacksPatch.is
    (c.prepend_bytes-in-LacksPatch-2.ensures.text ∙ ap (λ t. codes "texture " ++ t)
    (c.prepend_named.ensures.text ∙ ap (named_text c.in-LacksPatch.texture) c.prepend_bytes-in-LacksPatch.ensures.text))
