use Rattle.std.proofs.Common.{◌≡◌, ◌++◌, ap, ◌∙◌}
use Rattle.std.specs.Prelude.{codes}
use Rattle.lens_engines.specs.Unlisted.{unlisted_codes, unlisted_names, unlisted_note}
use Rattle.lens_engines.proofs.unlisted.Unlisted.write_note.Goals as goal

pub returns : goal.returns
returns g c =
    let self = c.args.self in
    let end = c.prepend_bytes.ensures.text ∙ ap (λ t. codes "; name the game's with --base" ++ t) c.new-line.ensures in
    let names = c.prepend_bytes-2.ensures.text ∙ ap (λ t. t ++ c.prepend_bytes.new.self) c.names.ensures.names ∙ ap (λ t. unlisted_names self ++ t) end in
    let why = c.prepend_bytes-3.ensures.text ∙ ap (λ t. codes " weren't looked for: no file has " ++ t) names in
    let note : c.as_bytes.result.now ≡ unlisted_note self =
    c.as_bytes.ensures ∙ c.prepend_bytes-4.ensures.text ∙ ap (λ t. t ++ c.prepend_bytes-3.new.self) c.codes.ensures.codes ∙ ap (λ t. unlisted_codes self ++ t) why in
    rw note at c.emit.ensures
