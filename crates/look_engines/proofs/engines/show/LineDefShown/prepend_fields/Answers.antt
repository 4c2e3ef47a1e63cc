use Rattle.le_rec.specs.Record.{linedef_layout}
use Rattle.map_level.specs.Reading.{linedef_under}
use Rattle.look_engines.proofs.engines.ShowLemmas.{record_text-before}
use Rattle.look_engines.proofs.engines.show.LineDefShown.prepend_fields.Goals as goal

pub returns-clause-text : goal.returns-clause-text
returns-clause-text c =
    rw (c.prepend_index-4.ensures.text, c.prepend_index-3.ensures.text, c.prepend_number-3.ensures.text, c.prepend_number-2.ensures.text, c.prepend_number.ensures.text, c.prepend_index-2.ensures.text, c.prepend_index.ensures.text)
    (record_text-before linedef_layout (linedef_under c.args.reading c.args.self.now) c.args.line.now)
