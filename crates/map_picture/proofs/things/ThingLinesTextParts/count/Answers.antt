use Rattle.std.proofs.Common.{length, ap, sym, ◌∙◌}
use Rattle.map_level.specs.Links.{things_of}
use Rattle.map_picture.specs.Things.{thing_line}
use Rattle.lens_texts.proofs.PartsLemmas.{length-numbered}
use Rattle.map_picture.proofs.things.ThingLinesTextParts.count.Goals as goal

pub returns : goal.returns
returns c =
    c.len.ensures ∙ ap (λ things. length things.records) c.things.ensures.is ∙ sym (length-numbered thing_line 0 (things_of c.args.self.now.level.now))
