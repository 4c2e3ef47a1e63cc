use Rattle.std.proofs.Common.{arith}
use Rattle.map_level.specs.Links.{things_of}
use Rattle.map_picture.specs.Things.{thing_line}
use Rattle.lens_texts.proofs.PartsLemmas.{length-numbered, numbered_part}
use Rattle.map_picture.proofs.things.ThingLinesTextParts.write.Goals as goal

pub at-thing-requires : goal.at-thing-requires
at-thing-requires g c =
    rw c.things.ensures.is (omega (arith, c.requires.there, length-numbered thing_line 0 (things_of c.args.self.now.level.now)))

pub returns : goal.returns
returns g c =
    let at = rw c.things.ensures.is at c.at-thing.ensures in
    rw (numbered_part thing_line 0 (things_of c.args.self.now.level.now) c.args.number c.args.number c.at-thing.result (omega arith) at) c.write_thing.ensures
